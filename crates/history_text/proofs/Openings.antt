-- The first bytes of an input are read, and their front is looked for.
use Rattle.std.proofs.Common.{◌≡◌, ℕ, true, false, List, [], Option, Some, None, Result, Ok, Err, IfOk, refl, sym, subst, ◌∙◌, inl}
use Rattle.std.specs.Prelude.{◌≢◌, IfErr}
use Rattle.std.specs.Global.{Vec}
use Rattle.std.specs.Io.KnownBytes.{Consumes}
use Rattle.ring_names.specs.declared.refusal.Refusal.{Refusal}
use Rattle.ring_names.specs.declared.refusal.Refusal.TheVariants.{OutOfMemory, ReadFailed}
use Rattle.texts.specs.Parts.{lines_of}
use Rattle.history_text.specs.declared.input.Head.{Head}
use Rattle.history_text.specs.declared.opening.Opened.{Opened}
use Rattle.history_text.specs.declared.opening.Tried.{Tried}
use Rattle.history_text.specs.declared.opening.Tried.TheVariants.{Found, More}
use Rattle.history_text.specs.Input.{IsHead, max_input}
use Rattle.plan_cert.specs.declared.front.Front.{Front}
use Rattle.plan_cert.specs.Front.{front_at}
use Rattle.history_text.specs.Front.{IsFront}
use Rattle.history_text.specs.Cutting.{HasNone, IsNoFront, IsOpened, IsTried}

consumes_none : (a : Option (List ℕ)) → Consumes a a []
consumes_none None = tt
consumes_none (Some x) = refl

-- the first bytes of all
pub first_head : (a b : Option (List ℕ)) (bytes : List ℕ) (most : ℕ) (head : Head) → bytes ≡ [] → ((start : Option (List ℕ)) → Consumes start a bytes → IsHead start b most head) → IsHead a b most head
first_head a b bytes most head e h = h a (subst (λ (xs : List ℕ). Consumes a a xs) (sym e) (consumes_none a))

-- more of them
pub next_head : (a b c : Option (List ℕ)) (most more : ℕ) (old new : Head) (bytes : List ℕ) → IsHead a b most old → bytes ≡ old.bytes.items → ((start : Option (List ℕ)) → Consumes start b bytes → IsHead start c more new) → IsHead a c more new
next_head a b c most more old new bytes h e f = f a (subst (λ (xs : List ℕ). Consumes a b xs) (sym e) h.bytes)

pub found_front : (a b : Option (List ℕ)) (most : ℕ) (head : Head) (t : Tried) (o : Opened) → t ≡ Found o → IsTried head t → IsHead a b most head → IsOpened a b o
found_front a b most head t o is tried h = by (subst (λ (x : Tried). IsTried head x) is tried)
  where
    by : IsTried head (Found o) → IsOpened a b o
    by (same, value, rest, front) = (most, subst (λ (x : Head). IsHead a b most x) (sym same) h, value, rest, subst (λ (x : Head). IsFront x.bytes.items o.front value rest) (sym same) front)

pub more_bytes : (head : Head) (t : Tried) (bytes : Vec ℕ) → t ≡ More bytes → IsTried head t → bytes.items ≡ head.bytes.items
more_bytes head t bytes is tried = subst (λ (x : Tried). IsTried head x) is tried

pub none_tried : (a b : Option (List ℕ)) (most : ℕ) (head : Head) (e : Refusal) → IsHead a b most head → (e ≢ OutOfMemory → (head.is_whole ≡ true) × (front_at (record { line = 1; lines = lines_of head.bytes.items }) ≡ Err e))
    → e ≢ OutOfMemory → e ≢ ReadFailed → HasNone a b e
none_tried a b most head e h f = λ ne nr. (let w = f ne in (most, head, h, inl (w.0, w.1), λ part. (let bad : true ≡ false = sym w.0 ∙ part in absurd cc)))

pub none_last : (a b : Option (List ℕ)) (head : Head) (r : Result Opened Refusal) → IsHead a b max_input head → IfErr r (λ e. e ≢ OutOfMemory → IsNoFront head e) → IfErr r (λ e. e ≢ OutOfMemory → e ≢ ReadFailed → HasNone a b e)
none_last a b head (Ok o) h f = tt
none_last a b head (Err e) h f = λ ne nr. (max_input, head, h, f ne, λ part. refl)

pub opened_last : (a b : Option (List ℕ)) (most : ℕ) (head : Head) (r : Result Opened Refusal) → IsHead a b most head
    → IfOk r (λ o. (o.head ≡ head) × (value : Front) × (rest : List ℕ) × IsFront head.bytes.items o.front value rest) → IfOk r (λ o. IsOpened a b o)
opened_last a b most head (Ok o) h f = found_front a b most head (Found o) o refl f h
opened_last a b most head (Err e) h f = tt
