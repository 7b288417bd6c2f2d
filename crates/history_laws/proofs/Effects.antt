-- The world of a part follows that of the whole through each event.
use Rattle.std.proofs.Common.{◌≡◌, ◌⊎◌, inl, inr, ◌∙◌, ℕ, zero, suc, ◌<◌, Bool, true, false, not, cond, List, [], ◌∷◌, ◌++◌, length, map, refl, sym, ap, subst, arith, eqb-true}
use Rattle.std.proofs.Math.Path.{fun_ext}
use Rattle.std.specs.Prelude.{◌&&◌, ◌==◌, Option, Some, None, slice_get}
use Rattle.std.specs.Str.{bytes_eq}
use Rattle.std.specs.List.{list_all, list_any}
use Rattle.std.proofs.lemmas.Bool.{and_parts, cases_lt}
use Rattle.std.proofs.lemmas.Slice.Eq.{bytes_eq-Decides}
use Rattle.ring_names.specs.Lists.{has}
use Rattle.ring_names.specs.declared.ids.Slot.{Slot}
use Rattle.ring_names.specs.declared.ids.NodeId.{NodeId}
use Rattle.ring_space.specs.Place.{place_of}
use Rattle.ring_table.specs.Value.{RingValue}
use Rattle.plan_text.specs.Steps.{is_slot}
use Rattle.plan_text.specs.declared.step.Source.{Source}
use Rattle.plan_text.specs.declared.step.Source.TheVariants as source
use Rattle.plan_text.specs.declared.step.Step.{Step}
use Rattle.plan_text.specs.declared.step.Step.TheVariants.{Join, Drop}
use Rattle.plan_text.specs.declared.step.Planned.{Planned}
use Rattle.plan_stage.specs.Parties.{source_slots}
use Rattle.plan_stage.proofs.Truth.{slot-is}
use Rattle.plan_runs.specs.World.{PutRecord, GetRecord, World, some_below, passing_below, key_of_put, key_of_get, found_at, copy_at, stage_now, generation, is_get_of, is_of_key}
use Rattle.plan_runs.specs.Succession.{latest}
use Rattle.plan_runs.specs.Versions.{put_slot, get_slot, is_in_chunk, slot_has}
use Rattle.plan_runs.specs.Reached.{Reached}
use Rattle.plan_runs.specs.Effects.{with_number, with_mark, with_puts, with_mirror_puts, without_puts, changed, with_value, step_effect, source_has, is_copied, copied_puts, chunk_copy_effect, start_put_effect, served_puts, write_effect, hint_effect, ack_effect, start_get_effect, finds, has_found, answers, read_effect, end_get_effect, handoff_effect, lose_effect}
use Rattle.plan_runs.proofs.Latest.{latest_of_is}
use Rattle.plan_runs.proofs.Passed.{among}
use Rattle.plan_runs.proofs.Passing.{some_found, below_is}
use Rattle.history_laws.specs.Parts.{is_of_part, part_size, number_in, all_renumbered, is_key_in}
use Rattle.history_laws.proofs.Numbers.{AllOf, Told, first_of_all, later_of, all_new, is_less, one_same, kept_is, new_is, past_is, kept_number, last_number}
use Rattle.history_laws.proofs.Listed.{Part, one_mine, one_other, mine_changed, other_changed, same_so}
use Rattle.history_laws.proofs.Follows.{SamePut, SameGet, SameNumbers, is_put_in, is_get_in, Follows, get_pair, asked_is_in, stage_same, generation_same, same_key, key_is_in, same_asked, same_found, put_mark, get_mark_is, puts_marked, puts_size, put_of_slot, passing_put_same, some_alike, has_same_put, group_same, same_slot, asked_slot}
use Rattle.history_laws.proofs.Successions.{numbers_has, put_there, latest_same}

-- ---- steps, copies and nodes

around : (ring : RingValue) (is_in : ℕ → Bool) (ps gs : List Bool) (w u : World) (d o : ℕ → Bool) (m : ℕ → ℕ → Bool) (a : ℕ → Bool) (b : ℕ → Slot → ℕ → Bool) (d' o' : ℕ → Bool) (m' : ℕ → ℕ → Bool) (a' : ℕ → Bool) (b' : ℕ → Slot → ℕ → Bool)
    → Follows ring is_in ps gs w u → d' ≡ d → o' ≡ o → m' ≡ m → a' ≡ a → ((x : ℕ) (s : Slot) (v : ℕ) → is_of_part ps v ≡ true → b' x s (number_in ps v) ≡ b x s v)
    → Follows ring is_in ps gs (record w { done = d; is_open = o; marked = m; up = a; stored = b }) (record u { done = d'; is_open = o'; marked = m'; up = a'; stored = b' })
around ring is_in ps gs w u d o m a b d' o' m' a' b' r ed eo em ea eb = record { done = ed; is_open = eo; marked = em; up = ea; puts = r.puts; gets = r.gets; stored = eb; hinted = r.hinted; losses = r.losses; lost = r.lost }

pub do_follows : (ring : RingValue) (is_in : ℕ → Bool) (ps gs : List Bool) (w u : World) (n : ℕ) (t : Option Step) → Follows ring is_in ps gs w u
    → Follows ring is_in ps gs (elim t [ Some s ↦ step_effect (record w { done = with_number w.done n }) s | None ↦ w ]) (elim t [ Some s ↦ step_effect (record u { done = with_number u.done n }) s | None ↦ u ])
do_follows ring is_in ps gs w u n None r = r
do_follows ring is_in ps gs w u n (Some (Join x)) r = around ring is_in ps gs w u (with_number w.done n) w.is_open w.marked (with_number w.up x.0) w.stored (with_number u.done n) u.is_open u.marked (with_number u.up x.0) u.stored r
    (ap (λ f. with_number f n) r.done) r.is_open r.marked (ap (λ f. with_number f x.0) r.up) r.stored
do_follows ring is_in ps gs w u n (Some (Drop s x)) r = around ring is_in ps gs w u (with_number w.done n) w.is_open w.marked w.up (without_puts w.stored x s) (with_number u.done n) u.is_open u.marked u.up (without_puts u.stored x s) r
    (ap (λ f. with_number f n) r.done) r.is_open r.marked r.up (λ y t v h. ap (λ b. not ((y == x.0) && is_slot s t) && b) (r.stored y t v h))
do_follows ring is_in ps gs w u n (Some s) r = around ring is_in ps gs w u (with_number w.done n) w.is_open w.marked w.up w.stored (with_number u.done n) u.is_open u.marked u.up u.stored r
    (ap (λ f. with_number f n) r.done) r.is_open r.marked r.up r.stored

pub steps_follow : (ring : RingValue) (is_in : ℕ → Bool) (ps gs : List Bool) (w u : World) (change open_change : (ℕ → Bool) → ℕ → Bool) → Follows ring is_in ps gs w u
    → Follows ring is_in ps gs (record w { is_open = open_change w.is_open; done = change w.done }) (record u { is_open = open_change u.is_open; done = change u.done })
steps_follow ring is_in ps gs w u change open_change r = around ring is_in ps gs w u (change w.done) (open_change w.is_open) w.marked w.up w.stored (change u.done) (open_change u.is_open) u.marked u.up u.stored r
    (ap change r.done) (ap open_change r.is_open) r.marked r.up r.stored

pub up_follows : (ring : RingValue) (is_in : ℕ → Bool) (ps gs : List Bool) (w u : World) (change : (ℕ → Bool) → ℕ → Bool) → Follows ring is_in ps gs w u → Follows ring is_in ps gs (record w { up = change w.up }) (record u { up = change u.up })
up_follows ring is_in ps gs w u change r = around ring is_in ps gs w u w.done w.is_open w.marked (change w.up) w.stored u.done u.is_open u.marked (change u.up) u.stored r r.done r.is_open r.marked (ap change r.up) r.stored

-- ---- puts that come to a slot

mirrored : (f g : ℕ → Slot → ℕ → Bool) (o : Option NodeId) (s : Slot) (more less : ℕ → Bool) (y : ℕ) (t : Slot) (m v : ℕ) → f y t m ≡ g y t v → more m ≡ less v → with_mirror_puts f o s more y t m ≡ with_mirror_puts g o s less y t v
mirrored f g None s more less y t m v e h = e
mirrored f g (Some x) s more less y t m v e h = rw (e, h) refl

served_same : (ring : RingValue) (plan : List Planned) (is_in : ℕ → Bool) (ps gs : List Bool) (w u : World) (s : Slot) (more less : ℕ → Bool) (y : ℕ) (t : Slot) (v : ℕ) → Follows ring is_in ps gs w u → is_of_part ps v ≡ true → more (number_in ps v) ≡ less v
    → served_puts ring plan u s more y t (number_in ps v) ≡ served_puts ring plan w s less y t v
served_same ring plan is_in ps gs w u s more less y t v r h e = subst (λ z. with_mirror_puts (with_puts u.stored z.owner s more) z.mirror s more y t (number_in ps v) ≡ served_puts ring plan w s less y t v) (sym (stage_same ring plan w u s r.done))
    (mirrored (with_puts u.stored (stage_now ring plan w s).owner s more) (with_puts w.stored (stage_now ring plan w s).owner s less) (stage_now ring plan w s).mirror s more less y t (number_in ps v) v (rw (r.stored y t v h, e) refl) e)

and_false : (a : Bool) → (a && false) ≡ false
and_false true = refl
and_false false = refl

not_among : (f : ℕ → Slot → ℕ → Bool) (x : NodeId) (s : Slot) (more : ℕ → Bool) (y : ℕ) (t : Slot) (v : ℕ) → more v ≡ false → with_puts f x s more y t v ≡ f y t v
not_among f x s more y t v e = rw (e, and_false ((y == x.0) && is_slot s t)) refl

not_mirrored : (f : ℕ → Slot → ℕ → Bool) (o : Option NodeId) (s : Slot) (more : ℕ → Bool) (y : ℕ) (t : Slot) (v : ℕ) → more v ≡ false → with_mirror_puts f o s more y t v ≡ f y t v
not_mirrored f None s more y t v e = refl
not_mirrored f (Some x) s more y t v e = not_among f x s more y t v e

not_served : (ring : RingValue) (plan : List Planned) (w : World) (s : Slot) (more : ℕ → Bool) (y : ℕ) (t : Slot) (v : ℕ) → more v ≡ false → served_puts ring plan w s more y t v ≡ w.stored y t v
not_served ring plan w s more y t v e = not_mirrored (with_puts w.stored (stage_now ring plan w s).owner s more) (stage_now ring plan w s).mirror s more y t v e ∙ not_among w.stored (stage_now ring plan w s).owner s more y t v e

-- ---- a chunk

any_alike : (f g : Slot → Bool) (xs : List Slot) → ((s : Slot) → f s ≡ g s) → list_any f xs ≡ list_any g xs
any_alike f g xs h = ap (λ z. list_any z xs) (fun_ext h)

source_same : (ring : RingValue) (plan : List Planned) (is_in : ℕ → Bool) (ps gs : List Bool) (w u : World) (s : Slot) (from : Source) (v : ℕ) → Follows ring is_in ps gs w u → is_of_part ps v ≡ true → source_has ring plan u s from (number_in ps v) ≡ source_has ring plan w s from v
source_same ring plan is_in ps gs w u s source.Owner v r h = subst (λ z. u.stored z.owner.0 s (number_in ps v) ≡ w.stored (stage_now ring plan w s).owner.0 s v) (sym (stage_same ring plan w u s r.done)) (r.stored (stage_now ring plan w s).owner.0 s v h)
source_same ring plan is_in ps gs w u s (source.Slots from) v r h = any_alike (λ t. slot_has ring plan u t (number_in ps v)) (λ t. slot_has ring plan w t v) (source_slots s (source.Slots from)) (λ t. has_same_put ring plan is_in ps gs w u t v r h)

pub chunk_same : (ring : RingValue) (is_in : ℕ → Bool) (ps gs : List Bool) (w u : World) (s : Slot) (c v : ℕ) → Follows ring is_in ps gs w u → is_of_part ps v ≡ true → is_in_chunk ring u s c (number_in ps v) ≡ is_in_chunk ring w s c v
chunk_same ring is_in ps gs w u s c v r h = ap (λ k. ((place_of ring.q k).partition == s.partition) && ((place_of ring.q k).chunk == c)) (same_key ring is_in ps gs w u v r h)

copied_same : (ring : RingValue) (plan : List Planned) (is_in : ℕ → Bool) (ps gs : List Bool) (w u : World) (s : Slot) (from : Source) (c v : ℕ) → Follows ring is_in ps gs w u → is_of_part ps v ≡ true → is_copied ring plan u s from c (number_in ps v) ≡ is_copied ring plan w s from c v
copied_same ring plan is_in ps gs w u s from c v r h = rw (put_there ring is_in ps gs w u v r h, chunk_same ring is_in ps gs w u s c v r h, source_same ring plan is_in ps gs w u s from v r h) refl

chunk_puts_same : (ring : RingValue) (plan : List Planned) (is_in : ℕ → Bool) (ps gs : List Bool) (w u : World) (c : ℕ) (o : Option (Slot × Source)) (y : ℕ) (t : Slot) (v : ℕ) → Follows ring is_in ps gs w u → is_of_part ps v ≡ true
    → (elim o as (λ _. ℕ → Slot → ℕ → Bool) [ Some k ↦ with_mirror_puts u.stored (stage_now ring plan u k.0).mirror k.0 (is_copied ring plan u k.0 k.1 c) | None ↦ u.stored ]) y t (number_in ps v)
    ≡ (elim o as (λ _. ℕ → Slot → ℕ → Bool) [ Some k ↦ with_mirror_puts w.stored (stage_now ring plan w k.0).mirror k.0 (is_copied ring plan w k.0 k.1 c) | None ↦ w.stored ]) y t v
chunk_puts_same ring plan is_in ps gs w u c None y t v r h = r.stored y t v h
chunk_puts_same ring plan is_in ps gs w u c (Some k) y t v r h =
    subst (λ z. with_mirror_puts u.stored z.mirror k.0 (is_copied ring plan u k.0 k.1 c) y t (number_in ps v) ≡ with_mirror_puts w.stored (stage_now ring plan w k.0).mirror k.0 (is_copied ring plan w k.0 k.1 c) y t v) (sym (stage_same ring plan w u k.0 r.done))
    (mirrored u.stored w.stored (stage_now ring plan w k.0).mirror k.0 (is_copied ring plan u k.0 k.1 c) (is_copied ring plan w k.0 k.1 c) y t (number_in ps v) v (r.stored y t v h) (copied_same ring plan is_in ps gs w u k.0 k.1 c v r h))

pub chunk_follows : (ring : RingValue) (plan : List Planned) (is_in : ℕ → Bool) (ps gs : List Bool) (w u : World) (n c : ℕ) → Follows ring is_in ps gs w u → Follows ring is_in ps gs (chunk_copy_effect ring plan w n c) (chunk_copy_effect ring plan u n c)
chunk_follows ring plan is_in ps gs w u n c r = around ring is_in ps gs w u w.done w.is_open (with_mark w.marked n c) w.up (copied_puts ring plan w n c) u.done u.is_open (with_mark u.marked n c) u.up (copied_puts ring plan u n c) r
    r.done r.is_open (ap (λ f. with_mark f n c) r.marked) r.up (λ y t v h. chunk_puts_same ring plan is_in ps gs w u c (copy_at plan n) y t v r h)

-- ---- marks grow

pub all_grown : (bs : List Bool) (b : Bool) (xs : List ℕ) → AllOf bs xs → AllOf (bs ++ b ∷ []) xs
all_grown bs b xs a v h = kept_is bs b v (is_less bs v (a v h)) ∙ a v h

pub map_grown : (bs : List Bool) (b : Bool) (xs : List ℕ) → AllOf bs xs → map (number_in (bs ++ b ∷ [])) xs ≡ map (number_in bs) xs
map_grown bs b [] a = refl
map_grown bs b (x ∷ xs) a = (let l = is_less bs x (first_of_all bs x xs a) in rw (kept_number bs b x (omega arith), map_grown bs b xs (later_of bs x xs a)) refl)

numbers_grown : (ps : List Bool) (b : Bool) (x y : Option (List ℕ)) → SameNumbers ps x y → SameNumbers (ps ++ b ∷ []) x y
numbers_grown ps b None None s = tt
numbers_grown ps b (Some vs) (Some us) s = (all_grown ps b vs s.0, s.1 ∙ sym (map_grown ps b vs s.0))
numbers_grown ps b x y s = absurd s

put_grown : (gs : List Bool) (b : Bool) (x y : PutRecord) → SamePut gs x y → SamePut (gs ++ b ∷ []) x y
put_grown gs b x y s = record { writer = s.writer; key = s.key; value = s.value; mine = all_grown gs b x.seen s.mine; seen = s.seen ∙ sym (map_grown gs b x.seen s.mine); ticket = s.ticket; acked = s.acked }

get_grown : (ps : List Bool) (b : Bool) (x y : GetRecord) → SameGet ps x y → SameGet (ps ++ b ∷ []) x y
get_grown ps b x y s = record { key = s.key; found = λ i. numbers_grown ps b (x.found i) (y.found i) (s.found i); reply = numbers_grown ps b x.reply y.reply s.reply }

-- a number among the grown ones is one of the first, or the new one
grown_cases : (bs : List Bool) (b : Bool) (v : ℕ) → is_of_part (bs ++ b ∷ []) v ≡ true → (is_of_part bs v ≡ true) ⊎ ((v ≡ length bs) × (b ≡ true))
grown_cases bs b v h = elim (cases_lt v (length bs)) [
  | inl l ↦ inl (sym (kept_is bs b v l) ∙ h)
  | inr l ↦ elim (cases_lt (length bs) v) [
    | inl m ↦ absurd (let e = past_is bs b v m in let f = sym e ∙ h in cc)
    | inr m ↦ (let e : v ≡ length bs = omega arith in inr (e, sym (new_is bs b v e) ∙ h))
  ]
]

never : (b : Bool) → (b ≡ true → ⊥) → b ≡ false
never true f = absurd (f refl)
never false f = refl

-- what is stored or kept of puts, beside one more, which nothing has
grown_same : (ring : RingValue) (is_in : ℕ → Bool) (ps gs : List Bool) (w u : World) (b : Bool) (f g : ℕ → Slot → ℕ → Bool) → Follows ring is_in ps gs w u
    → ((x : ℕ) (s : Slot) (v : ℕ) → g x s v ≡ true → v < length w.puts) → ((x : ℕ) (s : Slot) (v : ℕ) → f x s v ≡ true → v < length u.puts)
    → ((x : ℕ) (s : Slot) (v : ℕ) → is_of_part ps v ≡ true → f x s (number_in ps v) ≡ g x s v)
    → (x : ℕ) (s : Slot) (v : ℕ) → is_of_part (ps ++ b ∷ []) v ≡ true → f x s (number_in (ps ++ b ∷ []) v) ≡ g x s v
grown_same ring is_in ps gs w u b f g r lg lf same x s v h = elim (grown_cases ps b v h) [
  | inl m ↦ (let l = is_less ps v m in ap (f x s) (kept_number ps b v (omega arith)) ∙ same x s v m)
  | inr m ↦ (
      let e : v ≡ length ps = m.0 in
      let k : number_in (ps ++ b ∷ []) v ≡ part_size ps = kept_number ps b v (omega arith) ∙ (ap (number_in ps) e ∙ last_number ps) in
      let zu = puts_size ring is_in ps gs w u r in
      let zw = puts_marked ring is_in ps gs w u r in
      let a : f x s (number_in (ps ++ b ∷ []) v) ≡ false = never (f x s (number_in (ps ++ b ∷ []) v)) (λ t. (let l = lf x s (number_in (ps ++ b ∷ []) v) t in omega arith)) in
      let c : g x s v ≡ false = never (g x s v) (λ t. (let l = lg x s v t in omega arith)) in
      a ∙ sym c)
]

-- ---- starts

get_exists : (k : List ℕ) (gs : List GetRecord) (g : ℕ) → (elim (slice_get gs g) [ Some x ↦ bytes_eq x.key k | None ↦ false ]) ≡ true → (g < length gs) × ((elim (slice_get gs g) [ Some x ↦ x.key | None ↦ [] ]) ≡ k)
get_exists k [] g e = absurd cc
get_exists k (x ∷ gs) zero e = (omega arith, (bytes_eq-Decides x.key k).0 e)
get_exists k (x ∷ gs) (suc g) e = (let l = get_exists k gs g e in (let m = l.0 in omega arith, l.1))

-- gets of a key in the part are in the part
pub gets_mine : (ring : RingValue) (is_in : ℕ → Bool) (ps gs : List Bool) (w u : World) (key : List ℕ) (named : List ℕ) → Follows ring is_in ps gs w u → is_key_in ring is_in key ≡ true → list_all (is_get_of w key) named ≡ true → AllOf gs named
gets_mine ring is_in ps gs w u key named r k a g h =
    let e = get_exists key w.gets g (among (is_get_of w key) g named a h) in
    get_mark_is ring is_in ps gs w u g r e.0 ∙ (ap (is_key_in ring is_in) e.1 ∙ k)

start_put_marked : (ring : RingValue) (plan : List Planned) (is_in : ℕ → Bool) (ps gs : List Bool) (w u : World) (b : Bool) (xs ys : List PutRecord) → Reached ring plan w → Reached ring plan u → Follows ring is_in ps gs w u
    → Part (is_put_in ring is_in) (SamePut gs) (ps ++ b ∷ []) xs ys → Follows ring is_in (ps ++ b ∷ []) gs (record w { puts = xs }) (record u { puts = ys })
start_put_marked ring plan is_in ps gs w u b xs ys iw iu r p = record {
  done = r.done;
  is_open = r.is_open;
  marked = r.marked;
  up = r.up;
  puts = p;
  gets = same_so (is_get_in ring is_in) (SameGet ps) (SameGet (ps ++ b ∷ [])) gs w.gets u.gets (λ n x y a t s. get_grown ps b x y s) r.gets;
  stored = grown_same ring is_in ps gs w u b u.stored w.stored r (λ x s v e. (iw.stored x s v e).0) (λ x s v e. (iu.stored x s v e).0) r.stored;
  hinted = grown_same ring is_in ps gs w u b u.hinted w.hinted r (λ x s v e. (iw.hinted x s v e).0) (λ x s v e. (iu.hinted x s v e).0) r.hinted;
  losses = r.losses;
  lost = r.lost;
}

pub start_put_follows : (ring : RingValue) (plan : List Planned) (is_in : ℕ → Bool) (ps gs : List Bool) (w u : World) (writer : ℕ) (key value seen : List ℕ) → Reached ring plan w → Reached ring plan u → Follows ring is_in ps gs w u
    → list_all (is_get_of w key) seen ≡ true → is_key_in ring is_in key ≡ true
    → Follows ring is_in (ps ++ is_key_in ring is_in key ∷ []) gs (start_put_effect w writer key value seen) (start_put_effect u writer key value (all_renumbered gs seen))
start_put_follows ring plan is_in ps gs w u writer key value seen iw iu r of k =
    let a = gets_mine ring is_in ps gs w u key seen r k of in
    let x : PutRecord = record { writer = writer; key = key; value = value; seen = seen; ticket = λ i. None; acked = false } in
    let y : PutRecord = record { writer = writer; key = key; value = value; seen = all_renumbered gs seen; ticket = λ i. None; acked = false } in
    start_put_marked ring plan is_in ps gs w u (is_key_in ring is_in key) (w.puts ++ x ∷ []) (u.puts ++ y ∷ []) iw iu r
    (subst (λ b. Part (is_put_in ring is_in) (SamePut gs) (ps ++ b ∷ []) (w.puts ++ x ∷ []) (u.puts ++ y ∷ [])) (sym k)
    (one_mine (is_put_in ring is_in) (SamePut gs) ps w.puts u.puts x y r.puts k record { writer = refl; key = refl; value = refl; mine = a; seen = all_new gs seen a; ticket = λ i. refl; acked = refl }))

pub start_put_passes : (ring : RingValue) (plan : List Planned) (is_in : ℕ → Bool) (ps gs : List Bool) (w u : World) (writer : ℕ) (key value seen : List ℕ) → Reached ring plan w → Reached ring plan u → Follows ring is_in ps gs w u
    → is_key_in ring is_in key ≡ false → Follows ring is_in (ps ++ is_key_in ring is_in key ∷ []) gs (start_put_effect w writer key value seen) u
start_put_passes ring plan is_in ps gs w u writer key value seen iw iu r k =
    let x : PutRecord = record { writer = writer; key = key; value = value; seen = seen; ticket = λ i. None; acked = false } in
    start_put_marked ring plan is_in ps gs w u (is_key_in ring is_in key) (w.puts ++ x ∷ []) u.puts iw iu r
    (subst (λ b. Part (is_put_in ring is_in) (SamePut gs) (ps ++ b ∷ []) (w.puts ++ x ∷ []) u.puts) (sym k)
    (one_other (is_put_in ring is_in) (SamePut gs) ps w.puts u.puts x r.puts k))

start_get_marked : (ring : RingValue) (is_in : ℕ → Bool) (ps gs : List Bool) (w u : World) (b : Bool) (xs ys : List GetRecord) → Follows ring is_in ps gs w u
    → Part (is_get_in ring is_in) (SameGet ps) (gs ++ b ∷ []) xs ys → Follows ring is_in ps (gs ++ b ∷ []) (record w { gets = xs }) (record u { gets = ys })
start_get_marked ring is_in ps gs w u b xs ys r p = record {
  done = r.done;
  is_open = r.is_open;
  marked = r.marked;
  up = r.up;
  puts = same_so (is_put_in ring is_in) (SamePut gs) (SamePut (gs ++ b ∷ [])) ps w.puts u.puts (λ n x y a t s. put_grown gs b x y s) r.puts;
  gets = p;
  stored = r.stored;
  hinted = r.hinted;
  losses = r.losses;
  lost = r.lost;
}

pub start_get_follows : (ring : RingValue) (is_in : ℕ → Bool) (ps gs : List Bool) (w u : World) (key : List ℕ) → Follows ring is_in ps gs w u → is_key_in ring is_in key ≡ true
    → Follows ring is_in ps (gs ++ is_key_in ring is_in key ∷ []) (start_get_effect w key) (start_get_effect u key)
start_get_follows ring is_in ps gs w u key r k =
    let x : GetRecord = record { key = key; found = λ i. None; reply = None } in
    start_get_marked ring is_in ps gs w u (is_key_in ring is_in key) (w.gets ++ x ∷ []) (u.gets ++ x ∷ []) r
    (subst (λ b. Part (is_get_in ring is_in) (SameGet ps) (gs ++ b ∷ []) (w.gets ++ x ∷ []) (u.gets ++ x ∷ [])) (sym k)
    (one_mine (is_get_in ring is_in) (SameGet ps) gs w.gets u.gets x x r.gets k record { key = refl; found = λ i. tt; reply = tt }))

pub start_get_passes : (ring : RingValue) (is_in : ℕ → Bool) (ps gs : List Bool) (w u : World) (key : List ℕ) → Follows ring is_in ps gs w u → is_key_in ring is_in key ≡ false
    → Follows ring is_in ps (gs ++ is_key_in ring is_in key ∷ []) (start_get_effect w key) u
start_get_passes ring is_in ps gs w u key r k =
    let x : GetRecord = record { key = key; found = λ i. None; reply = None } in
    start_get_marked ring is_in ps gs w u (is_key_in ring is_in key) (w.gets ++ x ∷ []) u.gets r
    (subst (λ b. Part (is_get_in ring is_in) (SameGet ps) (gs ++ b ∷ []) (w.gets ++ x ∷ []) u.gets) (sym k)
    (one_other (is_get_in ring is_in) (SameGet ps) gs w.gets u.gets x r.gets k))

-- ---- puts

puts_follow : (ring : RingValue) (is_in : ℕ → Bool) (ps gs : List Bool) (w u : World) (xs ys : List PutRecord) (b h b' h' : ℕ → Slot → ℕ → Bool) → Follows ring is_in ps gs w u → Part (is_put_in ring is_in) (SamePut gs) ps xs ys
    → ((x : ℕ) (s : Slot) (v : ℕ) → is_of_part ps v ≡ true → b' x s (number_in ps v) ≡ b x s v) → ((x : ℕ) (s : Slot) (v : ℕ) → is_of_part ps v ≡ true → h' x s (number_in ps v) ≡ h x s v)
    → Follows ring is_in ps gs (record w { puts = xs; stored = b; hinted = h }) (record u { puts = ys; stored = b'; hinted = h' })
puts_follow ring is_in ps gs w u xs ys b h b' h' r p eb eh = record { done = r.done; is_open = r.is_open; marked = r.marked; up = r.up; puts = p; gets = r.gets; stored = eb; hinted = eh; losses = r.losses; lost = r.lost }

abbrev ticketed : RingValue → List Planned → World → ℕ → ℕ → PutRecord → PutRecord
ticketed ring plan w v j x = record x { ticket = with_value x.ticket j (generation plan w (put_slot ring w v j)) }

put_slot_in : (ring : RingValue) (is_in : ℕ → Bool) (ps gs : List Bool) (w u : World) (v i : ℕ) → Follows ring is_in ps gs w u → is_of_part ps v ≡ true → is_in (put_slot ring w v i).partition ≡ true
put_slot_in ring is_in ps gs w u v i r h = key_is_in ring is_in ps gs w u v r h

pub slot_generation : (ring : RingValue) (plan : List Planned) (is_in : ℕ → Bool) (ps gs : List Bool) (w u : World) (v i : ℕ) → Follows ring is_in ps gs w u → is_of_part ps v ≡ true
    → generation plan u (put_slot ring u (number_in ps v) i) ≡ generation plan w (put_slot ring w v i)
slot_generation ring plan is_in ps gs w u v i r h = ap (generation plan u) (same_slot ring is_in ps gs w u v i r h) ∙ generation_same ring plan is_in ps gs w u (put_slot ring w v i) r (put_slot_in ring is_in ps gs w u v i r h)

ticketed_part : (ring : RingValue) (plan : List Planned) (is_in : ℕ → Bool) (ps gs : List Bool) (w u : World) (v i : ℕ) → Follows ring is_in ps gs w u → is_of_part ps v ≡ true
    → Part (is_put_in ring is_in) (SamePut gs) ps (changed w.puts v (ticketed ring plan w v i)) (changed u.puts (number_in ps v) (ticketed ring plan u (number_in ps v) i))
ticketed_part ring plan is_in ps gs w u v i r h = mine_changed (is_put_in ring is_in) (SamePut gs) ps w.puts u.puts v (ticketed ring plan w v i) (ticketed ring plan u (number_in ps v) i) (λ x. refl) (λ x y at s. record {
  writer = s.writer;
  key = s.key;
  value = s.value;
  mine = s.mine;
  seen = s.seen;
  ticket = λ j. rw (slot_generation ring plan is_in ps gs w u v i r h, s.ticket j) refl;
  acked = s.acked;
}) h r.puts

pub write_follows : (ring : RingValue) (plan : List Planned) (is_in : ℕ → Bool) (ps gs : List Bool) (w u : World) (v i : ℕ) → Follows ring is_in ps gs w u → is_of_part ps v ≡ true
    → Follows ring is_in ps gs (write_effect ring plan w v i) (write_effect ring plan u (number_in ps v) i)
write_follows ring plan is_in ps gs w u v i r h = puts_follow ring is_in ps gs w u (changed w.puts v (ticketed ring plan w v i)) (changed u.puts (number_in ps v) (ticketed ring plan u (number_in ps v) i))
    (served_puts ring plan w (put_slot ring w v i) (λ z. z == v)) w.hinted (served_puts ring plan u (put_slot ring u (number_in ps v) i) (λ z. z == number_in ps v)) u.hinted r
    (ticketed_part ring plan is_in ps gs w u v i r h)
    (λ x s t m. ap (λ z. served_puts ring plan u z (λ y. y == number_in ps v) x s (number_in ps t)) (same_slot ring is_in ps gs w u v i r h)
    ∙ served_same ring plan is_in ps gs w u (put_slot ring w v i) (λ z. z == number_in ps v) (λ z. z == v) x s t r m (one_same ps t v m h))
    r.hinted

-- a put of the part is another one than one that is not
apart : (ps : List Bool) (t v : ℕ) → is_of_part ps t ≡ true → is_of_part ps v ≡ false → (t == v) ≡ false
apart ps t v m h = never (t == v) (λ e. (let f = ap (is_of_part ps) (eqb-true t v e) in let g = sym m ∙ (f ∙ h) in cc))

pub write_passes : (ring : RingValue) (plan : List Planned) (is_in : ℕ → Bool) (ps gs : List Bool) (w u : World) (v i : ℕ) → Follows ring is_in ps gs w u → is_of_part ps v ≡ false
    → Follows ring is_in ps gs (write_effect ring plan w v i) u
write_passes ring plan is_in ps gs w u v i r h = puts_follow ring is_in ps gs w u (changed w.puts v (ticketed ring plan w v i)) u.puts
    (served_puts ring plan w (put_slot ring w v i) (λ z. z == v)) w.hinted u.stored u.hinted r
    (other_changed (is_put_in ring is_in) (SamePut gs) ps w.puts u.puts v (ticketed ring plan w v i) (λ x. refl) h r.puts)
    (λ x s t m. r.stored x s t m ∙ sym (not_served ring plan w (put_slot ring w v i) (λ z. z == v) x s t (apart ps t v m h)))
    r.hinted

pub hint_follows : (ring : RingValue) (plan : List Planned) (is_in : ℕ → Bool) (ps gs : List Bool) (w u : World) (v i : ℕ) (x : NodeId) → Follows ring is_in ps gs w u → is_of_part ps v ≡ true
    → Follows ring is_in ps gs (hint_effect ring plan w v i x) (hint_effect ring plan u (number_in ps v) i x)
hint_follows ring plan is_in ps gs w u v i x r h = puts_follow ring is_in ps gs w u (changed w.puts v (ticketed ring plan w v i)) (changed u.puts (number_in ps v) (ticketed ring plan u (number_in ps v) i))
    w.stored (with_puts w.hinted x (put_slot ring w v i) (λ z. z == v)) u.stored (with_puts u.hinted x (put_slot ring u (number_in ps v) i) (λ z. z == number_in ps v)) r
    (ticketed_part ring plan is_in ps gs w u v i r h) r.stored
    (λ y s t m. ap (λ z. with_puts u.hinted x z (λ q. q == number_in ps v) y s (number_in ps t)) (same_slot ring is_in ps gs w u v i r h)
    ∙ rw (one_same ps t v m h, r.hinted y s t m) refl)

pub hint_passes : (ring : RingValue) (plan : List Planned) (is_in : ℕ → Bool) (ps gs : List Bool) (w u : World) (v i : ℕ) (x : NodeId) → Follows ring is_in ps gs w u → is_of_part ps v ≡ false
    → Follows ring is_in ps gs (hint_effect ring plan w v i x) u
hint_passes ring plan is_in ps gs w u v i x r h = puts_follow ring is_in ps gs w u (changed w.puts v (ticketed ring plan w v i)) u.puts
    w.stored (with_puts w.hinted x (put_slot ring w v i) (λ z. z == v)) u.stored u.hinted r
    (other_changed (is_put_in ring is_in) (SamePut gs) ps w.puts u.puts v (ticketed ring plan w v i) (λ x. refl) h r.puts) r.stored
    (λ y s t m. r.hinted y s t m ∙ sym (not_among w.hinted x (put_slot ring w v i) (λ z. z == v) y s t (apart ps t v m h)))

pub ack_follows : (ring : RingValue) (is_in : ℕ → Bool) (ps gs : List Bool) (w u : World) (v : ℕ) → Follows ring is_in ps gs w u → is_of_part ps v ≡ true → Follows ring is_in ps gs (ack_effect w v) (ack_effect u (number_in ps v))
ack_follows ring is_in ps gs w u v r h = puts_follow ring is_in ps gs w u (changed w.puts v (λ x. record x { acked = true })) (changed u.puts (number_in ps v) (λ x. record x { acked = true })) w.stored w.hinted u.stored u.hinted r
    (mine_changed (is_put_in ring is_in) (SamePut gs) ps w.puts u.puts v (λ x. record x { acked = true }) (λ x. record x { acked = true }) (λ x. refl)
    (λ x y at s. record { writer = s.writer; key = s.key; value = s.value; mine = s.mine; seen = s.seen; ticket = s.ticket; acked = refl }) h r.puts)
    r.stored r.hinted

pub ack_passes : (ring : RingValue) (is_in : ℕ → Bool) (ps gs : List Bool) (w u : World) (v : ℕ) → Follows ring is_in ps gs w u → is_of_part ps v ≡ false → Follows ring is_in ps gs (ack_effect w v) u
ack_passes ring is_in ps gs w u v r h = puts_follow ring is_in ps gs w u (changed w.puts v (λ x. record x { acked = true })) u.puts w.stored w.hinted u.stored u.hinted r
    (other_changed (is_put_in ring is_in) (SamePut gs) ps w.puts u.puts v (λ x. record x { acked = true }) (λ x. refl) h r.puts) r.stored r.hinted

-- ---- gets

gets_follow : (ring : RingValue) (is_in : ℕ → Bool) (ps gs : List Bool) (w u : World) (xs ys : List GetRecord) → Follows ring is_in ps gs w u → Part (is_get_in ring is_in) (SameGet ps) gs xs ys → Follows ring is_in ps gs (record w { gets = xs }) (record u { gets = ys })
gets_follow ring is_in ps gs w u xs ys r p = record { done = r.done; is_open = r.is_open; marked = r.marked; up = r.up; puts = r.puts; gets = p; stored = r.stored; hinted = r.hinted; losses = r.losses; lost = r.lost }

-- a put of the same key as a get in the part is in the part
pub of_key_mine : (ring : RingValue) (is_in : ℕ → Bool) (ps gs : List Bool) (w u : World) (g v : ℕ) → Follows ring is_in ps gs w u → is_of_part gs g ≡ true → v < length w.puts → is_of_key w (key_of_get w g) v ≡ true → is_of_part ps v ≡ true
of_key_mine ring is_in ps gs w u g v r h l e =
    let q = get_pair ring is_in ps gs w u g r h in
    put_mark ring is_in ps gs w u v r l ∙ (ap (is_key_in ring is_in) ((bytes_eq-Decides (key_of_put w v) (key_of_get w g)).0 e) ∙ asked_is_in ring is_in ps gs w u g r h)

pub key_same : (ring : RingValue) (is_in : ℕ → Bool) (ps gs : List Bool) (w u : World) (g v : ℕ) → Follows ring is_in ps gs w u → is_of_part gs g ≡ true → is_of_part ps v ≡ true
    → is_of_key u (key_of_get u (number_in gs g)) (number_in ps v) ≡ is_of_key w (key_of_get w g) v
key_same ring is_in ps gs w u g v r h m = rw (same_asked ring is_in ps gs w u g r h, same_key ring is_in ps gs w u v r m) refl

abbrev found_for : RingValue → List Planned → World → ℕ → ℕ → ℕ → Bool
found_for ring plan w g i v = is_of_key w (key_of_get w g) v && slot_has ring plan w (get_slot ring w g i) v

found_told : (ring : RingValue) (plan : List Planned) (is_in : ℕ → Bool) (ps gs : List Bool) (w u : World) (g i : ℕ) → Follows ring is_in ps gs w u → is_of_part gs g ≡ true → Told ps (found_for ring plan u (number_in gs g) i) (found_for ring plan w g i)
found_told ring plan is_in ps gs w u g i r h = record {
  same = λ v m. (
      ap (λ b. b && slot_has ring plan u (get_slot ring u (number_in gs g) i) (number_in ps v)) (key_same ring is_in ps gs w u g v r h m)
      ∙ ap (λ b. is_of_key w (key_of_get w g) v && b) (ap (λ z. slot_has ring plan u z (number_in ps v)) (asked_slot ring is_in ps gs w u g i r h) ∙ has_same_put ring plan is_in ps gs w u (get_slot ring w g i) v r m));
  only = λ v l e. (let k = puts_marked ring is_in ps gs w u r in of_key_mine ring is_in ps gs w u g v r h (omega arith) (and_parts (is_of_key w (key_of_get w g) v) (slot_has ring plan w (get_slot ring w g i) v) e).0);
}

-- those below that pass a test which only puts of the part pass are of the part, and so are the latest of them
passing_mine : (ring : RingValue) (is_in : ℕ → Bool) (ps gs : List Bool) (w u : World) (part whole : ℕ → Bool) → Follows ring is_in ps gs w u → Told ps part whole → AllOf ps (passing_below (length w.puts) whole)
passing_mine ring is_in ps gs w u part whole r t v h = (let b = below_is (length w.puts) whole v h in let k = puts_marked ring is_in ps gs w u r in let l : v < length w.puts = b.0 in t.only v (omega arith) b.1)

latest_mine : (w : World) (ps : List Bool) (vs : List ℕ) → AllOf ps vs → AllOf ps (latest w vs)
latest_mine w ps vs a v h = a v (latest_of_is w vs vs v h).0

latest_passing : (ring : RingValue) (is_in : ℕ → Bool) (ps gs : List Bool) (w u : World) (part whole : ℕ → Bool) → Follows ring is_in ps gs w u → Told ps part whole
    → SameNumbers ps (Some (latest w (passing_below (length w.puts) whole))) (Some (latest u (passing_below (length u.puts) part)))
latest_passing ring is_in ps gs w u part whole r t =
    let a = passing_mine ring is_in ps gs w u part whole r t in
    (latest_mine w ps (passing_below (length w.puts) whole) a, ap (latest u) (passing_put_same ring is_in ps gs w u part whole r t) ∙ latest_same ring is_in ps gs w u (passing_below (length w.puts) whole) r a)

pub finds_same : (ring : RingValue) (plan : List Planned) (is_in : ℕ → Bool) (ps gs : List Bool) (w u : World) (g i : ℕ) → Follows ring is_in ps gs w u → is_of_part gs g ≡ true
    → SameNumbers ps (Some (finds ring plan w g i)) (Some (finds ring plan u (number_in gs g) i))
finds_same ring plan is_in ps gs w u g i r h = latest_passing ring is_in ps gs w u (found_for ring plan u (number_in gs g) i) (found_for ring plan w g i) r (found_told ring plan is_in ps gs w u g i r h)

one_has : (ps : List Bool) (a : Option (List ℕ)) (b : Option (List ℕ)) (v : ℕ) → SameNumbers ps a b → (elim a [ Some vs ↦ has v vs | None ↦ false ]) ≡ true → is_of_part ps v ≡ true
one_has ps None None v s h = absurd cc
one_has ps (Some vs) (Some us) v s h = s.0 v h
one_has ps a b v s h = absurd s

answer_told : (ring : RingValue) (is_in : ℕ → Bool) (ps gs : List Bool) (w u : World) (g : ℕ) → Follows ring is_in ps gs w u → is_of_part gs g ≡ true
    → Told ps (λ v. some_below ring.n (has_found u (number_in gs g) v)) (λ v. some_below ring.n (has_found w g v))
answer_told ring is_in ps gs w u g r h = record {
  same = λ v m. some_alike ring.n (has_found u (number_in gs g) (number_in ps v)) (has_found w g v) (λ i. numbers_has ps (found_at w g i) (found_at u (number_in gs g) i) v (same_found ring is_in ps gs w u g i r h) m);
  only = λ v l e. (let f = some_found ring.n (has_found w g v) e in one_has ps (found_at w g f.0) (found_at u (number_in gs g) f.0) v (same_found ring is_in ps gs w u g f.0 r h) f.2);
}

pub answers_same : (ring : RingValue) (is_in : ℕ → Bool) (ps gs : List Bool) (w u : World) (g : ℕ) → Follows ring is_in ps gs w u → is_of_part gs g ≡ true
    → SameNumbers ps (Some (answers ring w g)) (Some (answers ring u (number_in gs g)))
answers_same ring is_in ps gs w u g r h = latest_passing ring is_in ps gs w u (λ v. some_below ring.n (has_found u (number_in gs g) v)) (λ v. some_below ring.n (has_found w g v)) r (answer_told ring is_in ps gs w u g r h)

pub read_follows : (ring : RingValue) (plan : List Planned) (is_in : ℕ → Bool) (ps gs : List Bool) (w u : World) (g i : ℕ) → Follows ring is_in ps gs w u → is_of_part gs g ≡ true
    → Follows ring is_in ps gs (read_effect ring plan w g i) (read_effect ring plan u (number_in gs g) i)
read_follows ring plan is_in ps gs w u g i r h = gets_follow ring is_in ps gs w u (changed w.gets g reads) (changed u.gets (number_in gs g) reads_in) r
    (mine_changed (is_get_in ring is_in) (SameGet ps) gs w.gets u.gets g reads reads_in (λ x. refl) (λ x y at s. record { key = s.key; found = λ j. by (j == i) (x.found j) (y.found j) (s.found j); reply = s.reply }) h r.gets)
  where
    reads : GetRecord → GetRecord
    reads x = record x { found = with_value x.found i (finds ring plan w g i) }

    reads_in : GetRecord → GetRecord
    reads_in x = record x { found = with_value x.found i (finds ring plan u (number_in gs g) i) }

    by : (b : Bool) (x y : Option (List ℕ)) → SameNumbers ps x y → SameNumbers ps (cond b (Some (finds ring plan w g i)) x) (cond b (Some (finds ring plan u (number_in gs g) i)) y)
    by true x y s = finds_same ring plan is_in ps gs w u g i r h
    by false x y s = s

pub read_passes : (ring : RingValue) (plan : List Planned) (is_in : ℕ → Bool) (ps gs : List Bool) (w u : World) (g i : ℕ) → Follows ring is_in ps gs w u → is_of_part gs g ≡ false → Follows ring is_in ps gs (read_effect ring plan w g i) u
read_passes ring plan is_in ps gs w u g i r h = gets_follow ring is_in ps gs w u (changed w.gets g (λ x. record x { found = with_value x.found i (finds ring plan w g i) })) u.gets r
    (other_changed (is_get_in ring is_in) (SameGet ps) gs w.gets u.gets g (λ x. record x { found = with_value x.found i (finds ring plan w g i) }) (λ x. refl) h r.gets)

pub end_get_follows : (ring : RingValue) (is_in : ℕ → Bool) (ps gs : List Bool) (w u : World) (g : ℕ) → Follows ring is_in ps gs w u → is_of_part gs g ≡ true → Follows ring is_in ps gs (end_get_effect ring w g) (end_get_effect ring u (number_in gs g))
end_get_follows ring is_in ps gs w u g r h =
    gets_follow ring is_in ps gs w u (changed w.gets g (λ x. record x { reply = Some (answers ring w g) })) (changed u.gets (number_in gs g) (λ x. record x { reply = Some (answers ring u (number_in gs g)) })) r
    (mine_changed (is_get_in ring is_in) (SameGet ps) gs w.gets u.gets g (λ x. record x { reply = Some (answers ring w g) }) (λ x. record x { reply = Some (answers ring u (number_in gs g)) }) (λ x. refl)
    (λ x y at s. record { key = s.key; found = s.found; reply = answers_same ring is_in ps gs w u g r h }) h r.gets)

pub end_get_passes : (ring : RingValue) (is_in : ℕ → Bool) (ps gs : List Bool) (w u : World) (g : ℕ) → Follows ring is_in ps gs w u → is_of_part gs g ≡ false → Follows ring is_in ps gs (end_get_effect ring w g) u
end_get_passes ring is_in ps gs w u g r h = gets_follow ring is_in ps gs w u (changed w.gets g (λ x. record x { reply = Some (answers ring w g) })) u.gets r
    (other_changed (is_get_in ring is_in) (SameGet ps) gs w.gets u.gets g (λ x. record x { reply = Some (answers ring w g) }) (λ x. refl) h r.gets)

-- ---- hints handed on, and losses

pub handoff_follows : (ring : RingValue) (plan : List Planned) (is_in : ℕ → Bool) (ps gs : List Bool) (w u : World) (x : NodeId) (s : Slot) → Follows ring is_in ps gs w u → Follows ring is_in ps gs (handoff_effect ring plan w x s) (handoff_effect ring plan u x s)
handoff_follows ring plan is_in ps gs w u x s r = puts_follow ring is_in ps gs w u w.puts u.puts
    (served_puts ring plan w s (w.hinted x.0 s)) (without_puts w.hinted x s) (served_puts ring plan u s (u.hinted x.0 s)) (without_puts u.hinted x s) r r.puts
    (λ y t v m. served_same ring plan is_in ps gs w u s (u.hinted x.0 s) (w.hinted x.0 s) y t v r m (r.hinted x.0 s v m))
    (λ y t v m. ap (λ b. not ((y == x.0) && is_slot s t) && b) (r.hinted y t v m))

none_there : (f : ℕ → Slot → ℕ → Bool) (x : NodeId) (s : Slot) (y : ℕ) (t : Slot) (v : ℕ) → f x.0 s v ≡ false → without_puts f x s y t v ≡ f y t v
none_there f x s y t v e = by ((y == x.0) && is_slot s t) refl
  where
    by : (b : Bool) → ((y == x.0) && is_slot s t) ≡ b → (not b && f y t v) ≡ f y t v
    by false h = refl
    by true h =
        let p = and_parts (y == x.0) (is_slot s t) h in
        sym (ap (λ z. f z t v) (eqb-true y x.0 p.0) ∙ (ap (λ z. f x.0 z v) (sym (slot-is s t p.1)) ∙ e))

pub handoff_passes : (ring : RingValue) (plan : List Planned) (is_in : ℕ → Bool) (ps gs : List Bool) (w u : World) (x : NodeId) (s : Slot) → Reached ring plan w → Follows ring is_in ps gs w u → is_in s.partition ≡ false → Follows ring is_in ps gs (handoff_effect ring plan w x s) u
handoff_passes ring plan is_in ps gs w u x s i r h = puts_follow ring is_in ps gs w u w.puts u.puts
    (served_puts ring plan w s (w.hinted x.0 s)) (without_puts w.hinted x s) u.stored u.hinted r r.puts
    (λ y t v m. r.stored y t v m ∙ sym (not_served ring plan w s (w.hinted x.0 s) y t v (none v m)))
    (λ y t v m. r.hinted y t v m ∙ sym (none_there w.hinted x s y t v (none v m)))
  where
    none : (v : ℕ) → is_of_part ps v ≡ true → w.hinted x.0 s v ≡ false
    none v m = never (w.hinted x.0 s v) (λ e. (let f = sym m ∙ (put_of_slot ring is_in ps gs w u s v r (i.hinted x.0 s v e) ∙ h) in cc))

pub lose_follows : (ring : RingValue) (plan : List Planned) (is_in : ℕ → Bool) (ps gs : List Bool) (w u : World) (x : NodeId) → Reached ring plan w → Follows ring is_in ps gs w u → Follows ring is_in ps gs (lose_effect ring plan w x) (lose_effect ring plan u x)
lose_follows ring plan is_in ps gs w u x i r = record {
  done = r.done;
  is_open = r.is_open;
  marked = r.marked;
  up = r.up;
  puts = r.puts;
  gets = r.gets;
  stored = λ y t v m. ap (λ b. not (y == x.0) && b) (r.stored y t v m);
  hinted = λ y t v m. ap (λ b. not (y == x.0) && b) (r.hinted y t v m);
  losses = (let e = r.losses in omega arith);
  lost = λ s h. rw (group_same ring plan is_in ps gs w u s x.0 i r h, r.lost s h) refl;
}
