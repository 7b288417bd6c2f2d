-- The world of a part beside the world of the whole.
use Rattle.std.proofs.Common.{◌≡◌, ◌∙◌, ℕ, zero, suc, ◌<◌, Bool, true, false, not, List, [], ◌∷◌, length, map, refl, sym, ap, subst, arith}
use Rattle.std.proofs.Math.Path.{fun_ext}
use Rattle.std.specs.Prelude.{◌&&◌, ◌||◌, ◌==◌, Option, Some, None, is_some}
use Rattle.ring_names.specs.declared.ids.Slot.{Slot}
use Rattle.ring_table.specs.Value.{RingValue}
use Rattle.plan_text.specs.Steps.{steps_of, is_join_of, is_retire_of}
use Rattle.plan_text.specs.declared.step.Planned.{Planned}
use Rattle.plan_stage.specs.Stage.{stage}
use Rattle.plan_stage.specs.Each.{some_step, sibling}
use Rattle.ring_table.specs.Value.{is_member}
use Rattle.plan_runs.specs.World.{PutRecord, GetRecord, World, some_below, passing_below, count, key_of_put, writer_of, seen_of, is_acked, ticket_of, key_of_get, found_at, reply_of}
use Rattle.plan_runs.specs.World.{stage_now, mirror_at, mirrors_done, generation, is_member_now, slot_of, keeps, keeps_other, is_in_group}
use Rattle.plan_runs.specs.Versions.{put_slot, get_slot, some_hinted, slot_has}
use Rattle.plan_runs.specs.Reached.{IsPutOf, Reached}
use Rattle.plan_runs.proofs.Changed.{read_at}
use Rattle.plan_runs.proofs.Passing.{some_found, some_is}
use Rattle.history_laws.specs.Parts.{is_of_part, part_size, number_in, is_key_in}
use Rattle.history_laws.proofs.Numbers.{AllOf, Told, some_same, passing_same, is_less, number_found}
use Rattle.history_laws.proofs.Listed.{Part, Pair, marks, size, pair, marked_is, read_is, read_same, read_so}

-- ---- the relation

-- a put as it is in the part: the same words, and the gets that it names by their numbers there
pub record SamePut (gs : List Bool) (x y : PutRecord) : Type 0 where
  pub writer : y.writer ≡ x.writer
  pub key : y.key ≡ x.key
  pub value : y.value ≡ x.value
  pub mine : AllOf gs x.seen
  pub seen : y.seen ≡ map (number_in gs) x.seen
  pub ticket : (i : ℕ) → y.ticket i ≡ x.ticket i
  pub acked : y.acked ≡ x.acked

-- puts by their numbers there, if there are some
abbrev pub SameNumbers : List Bool → Option (List ℕ) → Option (List ℕ) → Type 0
SameNumbers ps None None = Unit {0}
SameNumbers ps (Some vs) (Some us) = AllOf ps vs × (us ≡ map (number_in ps) vs)
SameNumbers ps a b = ⊥

-- a get as it is in the part
pub record SameGet (ps : List Bool) (x y : GetRecord) : Type 0 where
  pub key : y.key ≡ x.key
  pub found : (i : ℕ) → SameNumbers ps (x.found i) (y.found i)
  pub reply : SameNumbers ps x.reply y.reply

abbrev pub is_put_in : RingValue → (ℕ → Bool) → PutRecord → Bool
is_put_in ring is_in x = is_key_in ring is_in x.key

abbrev pub is_get_in : RingValue → (ℕ → Bool) → GetRecord → Bool
is_get_in ring is_in x = is_key_in ring is_in x.key

-- the part's world follows the whole's. Steps, copies and nodes are the same. Puts and gets are those in the
-- part, by the marks, and so is what nodes store and keep. Losses count if they are of slots in the part
pub record Follows (ring : RingValue) (is_in : ℕ → Bool) (ps gs : List Bool) (w u : World) : Type 0 where
  pub done : u.done ≡ w.done
  pub is_open : u.is_open ≡ w.is_open
  pub marked : u.marked ≡ w.marked
  pub up : u.up ≡ w.up
  pub puts : Part (is_put_in ring is_in) (SamePut gs) ps w.puts u.puts
  pub gets : Part (is_get_in ring is_in) (SameGet ps) gs w.gets u.gets
  pub stored : (x : ℕ) (s : Slot) (v : ℕ) → is_of_part ps v ≡ true → u.stored x s (number_in ps v) ≡ w.stored x s v
  pub hinted : (x : ℕ) (s : Slot) (v : ℕ) → is_of_part ps v ≡ true → u.hinted x s (number_in ps v) ≡ w.hinted x s v
  pub losses : u.losses ≡ w.losses
  pub lost : (s : Slot) → is_in s.partition ≡ true → u.lost s ≡ w.lost s

-- ---- stages and members are the same

pub stage_same : (ring : RingValue) (plan : List Planned) (w u : World) (s : Slot) → u.done ≡ w.done → stage_now ring plan u s ≡ stage_now ring plan w s
stage_same ring plan w u s e = ap (λ (d : ℕ → Bool). stage ring plan s (count d (steps_of plan s))) e

pub mirrors_same : (plan : List Planned) (w u : World) (s : Slot) → u.done ≡ w.done → mirrors_done plan u s ≡ mirrors_done plan w s
mirrors_same plan w u s e = ap (λ (d : ℕ → Bool). count (λ n. d n && is_some (mirror_at plan n)) (steps_of plan s)) e

pub member_same : (ring : RingValue) (plan : List Planned) (w u : World) (x : ℕ) → u.done ≡ w.done → is_member_now ring plan u x ≡ is_member_now ring plan w x
member_same ring plan w u x e = ap (λ (d : ℕ → Bool). (is_member ring.nodes (record { 0 = x }) || some_step (λ n s. d n && is_join_of x s) 0 plan)
    && not (some_step (λ n s. d n && is_retire_of x s) 0 plan)) e

-- ---- puts and gets of the part

pub put_pair : (ring : RingValue) (is_in : ℕ → Bool) (ps gs : List Bool) (w u : World) (v : ℕ) → Follows ring is_in ps gs w u → is_of_part ps v ≡ true
    → Pair (is_put_in ring is_in) (SamePut gs) v (number_in ps v) w.puts u.puts
put_pair ring is_in ps gs w u v r h = pair (is_put_in ring is_in) (SamePut gs) ps w.puts u.puts v r.puts h

pub get_pair : (ring : RingValue) (is_in : ℕ → Bool) (ps gs : List Bool) (w u : World) (g : ℕ) → Follows ring is_in ps gs w u → is_of_part gs g ≡ true
    → Pair (is_get_in ring is_in) (SameGet ps) g (number_in gs g) w.gets u.gets
get_pair ring is_in ps gs w u g r h = pair (is_get_in ring is_in) (SameGet ps) gs w.gets u.gets g r.gets h

pub same_key : (ring : RingValue) (is_in : ℕ → Bool) (ps gs : List Bool) (w u : World) (v : ℕ) → Follows ring is_in ps gs w u → is_of_part ps v ≡ true → key_of_put u (number_in ps v) ≡ key_of_put w v
same_key ring is_in ps gs w u v r h = read_same (λ (x : PutRecord). x.key) [] (is_put_in ring is_in) (SamePut gs) v (number_in ps v) w.puts u.puts (λ x y z. z.key) (put_pair ring is_in ps gs w u v r h)

pub key_is_in : (ring : RingValue) (is_in : ℕ → Bool) (ps gs : List Bool) (w u : World) (v : ℕ) → Follows ring is_in ps gs w u → is_of_part ps v ≡ true → is_key_in ring is_in (key_of_put w v) ≡ true
key_is_in ring is_in ps gs w u v r h = (let q = put_pair ring is_in ps gs w u v r h in subst (λ k. is_key_in ring is_in k ≡ true) (sym (read_is (λ (x : PutRecord). x.key) [] w.puts v q.left q.at_left)) q.mine)

pub same_writer : (ring : RingValue) (is_in : ℕ → Bool) (ps gs : List Bool) (w u : World) (v : ℕ) → Follows ring is_in ps gs w u → is_of_part ps v ≡ true → writer_of u (number_in ps v) ≡ writer_of w v
same_writer ring is_in ps gs w u v r h = read_same (λ (x : PutRecord). x.writer) 0 (is_put_in ring is_in) (SamePut gs) v (number_in ps v) w.puts u.puts (λ x y z. z.writer) (put_pair ring is_in ps gs w u v r h)

pub same_seen : (ring : RingValue) (is_in : ℕ → Bool) (ps gs : List Bool) (w u : World) (v : ℕ) → Follows ring is_in ps gs w u → is_of_part ps v ≡ true → seen_of u (number_in ps v) ≡ map (number_in gs) (seen_of w v)
same_seen ring is_in ps gs w u v r h = read_so (λ (x : PutRecord). x.seen) [] (λ a b. b ≡ map (number_in gs) a) (is_put_in ring is_in) (SamePut gs) v (number_in ps v) w.puts u.puts (λ x y z. z.seen) (put_pair ring is_in ps gs w u v r h)

pub seen_mine : (ring : RingValue) (is_in : ℕ → Bool) (ps gs : List Bool) (w u : World) (v : ℕ) → Follows ring is_in ps gs w u → is_of_part ps v ≡ true → AllOf gs (seen_of w v)
seen_mine ring is_in ps gs w u v r h = read_so (λ (x : PutRecord). x.seen) [] (λ a b. AllOf gs a) (is_put_in ring is_in) (SamePut gs) v (number_in ps v) w.puts u.puts (λ x y z. z.mine) (put_pair ring is_in ps gs w u v r h)

pub same_ticket : (ring : RingValue) (is_in : ℕ → Bool) (ps gs : List Bool) (w u : World) (v i : ℕ) → Follows ring is_in ps gs w u → is_of_part ps v ≡ true → ticket_of u (number_in ps v) i ≡ ticket_of w v i
same_ticket ring is_in ps gs w u v i r h = read_same (λ (x : PutRecord). x.ticket i) None (is_put_in ring is_in) (SamePut gs) v (number_in ps v) w.puts u.puts (λ x y z. z.ticket i) (put_pair ring is_in ps gs w u v r h)

pub same_acked : (ring : RingValue) (is_in : ℕ → Bool) (ps gs : List Bool) (w u : World) (v : ℕ) → Follows ring is_in ps gs w u → is_of_part ps v ≡ true → is_acked u (number_in ps v) ≡ is_acked w v
same_acked ring is_in ps gs w u v r h = read_same (λ (x : PutRecord). x.acked) false (is_put_in ring is_in) (SamePut gs) v (number_in ps v) w.puts u.puts (λ x y z. z.acked) (put_pair ring is_in ps gs w u v r h)

pub same_asked : (ring : RingValue) (is_in : ℕ → Bool) (ps gs : List Bool) (w u : World) (g : ℕ) → Follows ring is_in ps gs w u → is_of_part gs g ≡ true → key_of_get u (number_in gs g) ≡ key_of_get w g
same_asked ring is_in ps gs w u g r h = read_same (λ (x : GetRecord). x.key) [] (is_get_in ring is_in) (SameGet ps) g (number_in gs g) w.gets u.gets (λ x y z. z.key) (get_pair ring is_in ps gs w u g r h)

pub asked_is_in : (ring : RingValue) (is_in : ℕ → Bool) (ps gs : List Bool) (w u : World) (g : ℕ) → Follows ring is_in ps gs w u → is_of_part gs g ≡ true → is_key_in ring is_in (key_of_get w g) ≡ true
asked_is_in ring is_in ps gs w u g r h = (let q = get_pair ring is_in ps gs w u g r h in subst (λ k. is_key_in ring is_in k ≡ true) (sym (read_is (λ (x : GetRecord). x.key) [] w.gets g q.left q.at_left)) q.mine)

pub same_found : (ring : RingValue) (is_in : ℕ → Bool) (ps gs : List Bool) (w u : World) (g i : ℕ) → Follows ring is_in ps gs w u → is_of_part gs g ≡ true → SameNumbers ps (found_at w g i) (found_at u (number_in gs g) i)
same_found ring is_in ps gs w u g i r h = read_so (λ (x : GetRecord). x.found i) None (SameNumbers ps) (is_get_in ring is_in) (SameGet ps) g (number_in gs g) w.gets u.gets (λ x y z. z.found i) (get_pair ring is_in ps gs w u g r h)

pub same_reply : (ring : RingValue) (is_in : ℕ → Bool) (ps gs : List Bool) (w u : World) (g : ℕ) → Follows ring is_in ps gs w u → is_of_part gs g ≡ true → SameNumbers ps (reply_of w g) (reply_of u (number_in gs g))
same_reply ring is_in ps gs w u g r h = read_so (λ (x : GetRecord). x.reply) None (SameNumbers ps) (is_get_in ring is_in) (SameGet ps) g (number_in gs g) w.gets u.gets (λ x y z. z.reply) (get_pair ring is_in ps gs w u g r h)

pub numbers_some : (ps : List Bool) (a b : Option (List ℕ)) → SameNumbers ps a b → is_some b ≡ is_some a
numbers_some ps None None s = refl
numbers_some ps (Some vs) (Some us) s = refl
numbers_some ps a b s = absurd s

-- ---- which numbers are of the part

read_mark : (ring : RingValue) (is_in : ℕ → Bool) (xs : List PutRecord) (v : ℕ) → v < length xs → read_at (is_put_in ring is_in) false xs v ≡ is_key_in ring is_in (read_at (λ (x : PutRecord). x.key) [] xs v)
read_mark ring is_in [] v l = absurd (omega arith)
read_mark ring is_in (x ∷ xs) zero l = refl
read_mark ring is_in (x ∷ xs) (suc v) l = read_mark ring is_in xs v (omega arith)

get_mark : (ring : RingValue) (is_in : ℕ → Bool) (xs : List GetRecord) (v : ℕ) → v < length xs → read_at (is_get_in ring is_in) false xs v ≡ is_key_in ring is_in (read_at (λ (x : GetRecord). x.key) [] xs v)
get_mark ring is_in [] v l = absurd (omega arith)
get_mark ring is_in (x ∷ xs) zero l = refl
get_mark ring is_in (x ∷ xs) (suc v) l = get_mark ring is_in xs v (omega arith)

pub put_mark : (ring : RingValue) (is_in : ℕ → Bool) (ps gs : List Bool) (w u : World) (v : ℕ) → Follows ring is_in ps gs w u → v < length w.puts → is_of_part ps v ≡ is_key_in ring is_in (key_of_put w v)
put_mark ring is_in ps gs w u v r l = marked_is (is_put_in ring is_in) (SamePut gs) ps w.puts u.puts v r.puts ∙ read_mark ring is_in w.puts v l

pub get_mark_is : (ring : RingValue) (is_in : ℕ → Bool) (ps gs : List Bool) (w u : World) (g : ℕ) → Follows ring is_in ps gs w u → g < length w.gets → is_of_part gs g ≡ is_key_in ring is_in (key_of_get w g)
get_mark_is ring is_in ps gs w u g r l = marked_is (is_get_in ring is_in) (SameGet ps) gs w.gets u.gets g r.gets ∙ get_mark ring is_in w.gets g l

pub puts_marked : (ring : RingValue) (is_in : ℕ → Bool) (ps gs : List Bool) (w u : World) → Follows ring is_in ps gs w u → length ps ≡ length w.puts
puts_marked ring is_in ps gs w u r = marks (is_put_in ring is_in) (SamePut gs) ps w.puts u.puts r.puts

pub gets_marked : (ring : RingValue) (is_in : ℕ → Bool) (ps gs : List Bool) (w u : World) → Follows ring is_in ps gs w u → length gs ≡ length w.gets
gets_marked ring is_in ps gs w u r = marks (is_get_in ring is_in) (SameGet ps) gs w.gets u.gets r.gets

pub puts_size : (ring : RingValue) (is_in : ℕ → Bool) (ps gs : List Bool) (w u : World) → Follows ring is_in ps gs w u → length u.puts ≡ part_size ps
puts_size ring is_in ps gs w u r = size (is_put_in ring is_in) (SamePut gs) ps w.puts u.puts r.puts

pub gets_size : (ring : RingValue) (is_in : ℕ → Bool) (ps gs : List Bool) (w u : World) → Follows ring is_in ps gs w u → length u.gets ≡ part_size gs
gets_size ring is_in ps gs w u r = size (is_get_in ring is_in) (SameGet ps) gs w.gets u.gets r.gets

-- a put of a slot's partition is of the part where the partition is
pub put_of_slot : (ring : RingValue) (is_in : ℕ → Bool) (ps gs : List Bool) (w u : World) (s : Slot) (v : ℕ) → Follows ring is_in ps gs w u → IsPutOf ring w s v → is_of_part ps v ≡ is_in s.partition
put_of_slot ring is_in ps gs w u s v r p = put_mark ring is_in ps gs w u v r p.0 ∙ ap is_in p.1

-- a test of the part's puts tells what a test of the whole's does
pub some_put_same : (ring : RingValue) (is_in : ℕ → Bool) (ps gs : List Bool) (w u : World) (part whole : ℕ → Bool) → Follows ring is_in ps gs w u → Told ps part whole → some_below (length u.puts) part ≡ some_below (length w.puts) whole
some_put_same ring is_in ps gs w u part whole r t =
    ap (λ n. some_below n part) (puts_size ring is_in ps gs w u r) ∙ (some_same ps part whole t ∙ ap (λ n. some_below n whole) (puts_marked ring is_in ps gs w u r))

pub passing_put_same : (ring : RingValue) (is_in : ℕ → Bool) (ps gs : List Bool) (w u : World) (part whole : ℕ → Bool) → Follows ring is_in ps gs w u → Told ps part whole → passing_below (length u.puts) part ≡ map (number_in ps) (passing_below (length w.puts) whole)
passing_put_same ring is_in ps gs w u part whole r t =
    ap (λ n. passing_below n part) (puts_size ring is_in ps gs w u r) ∙ (passing_same ps part whole t ∙ ap (λ n. map (number_in ps) (passing_below n whole)) (puts_marked ring is_in ps gs w u r))

-- ---- what is kept and held

pub keeps_same : (ring : RingValue) (plan : List Planned) (is_in : ℕ → Bool) (ps gs : List Bool) (w u : World) (x : ℕ) (s : Slot) → Reached ring plan w → Follows ring is_in ps gs w u → is_in s.partition ≡ true → keeps u x s ≡ keeps w x s
keeps_same ring plan is_in ps gs w u x s i r h = some_put_same ring is_in ps gs w u (λ v. u.hinted x s v) (λ v. w.hinted x s v) r record {
  same = λ v m. r.hinted x s v m;
  only = λ v l e. put_of_slot ring is_in ps gs w u s v r (i.hinted x s v e) ∙ h;
}

-- what a node keeps for a slot in the part it keeps for it in the whole
pub keeps_whole : (ring : RingValue) (is_in : ℕ → Bool) (ps gs : List Bool) (w u : World) (x : ℕ) (s : Slot) → Follows ring is_in ps gs w u → keeps u x s ≡ true → keeps w x s ≡ true
keeps_whole ring is_in ps gs w u x s r e =
    let f = some_found (length u.puts) (λ v. u.hinted x s v) e in
    let z = puts_size ring is_in ps gs w u r in
    let l : f.0 < length u.puts = f.1 in
    let n = number_found ps f.0 (omega arith) in
    let m = is_less ps n.0 n.1 in
    let k = puts_marked ring is_in ps gs w u r in
    some_is (length w.puts) (λ v. w.hinted x s v) n.0 (omega arith) (sym (r.hinted x s n.0 n.1) ∙ (ap (λ v. u.hinted x s v) n.2 ∙ f.2))

pub generation_same : (ring : RingValue) (plan : List Planned) (is_in : ℕ → Bool) (ps gs : List Bool) (w u : World) (s : Slot) → Follows ring is_in ps gs w u → is_in s.partition ≡ true → generation plan u s ≡ generation plan w s
generation_same ring plan is_in ps gs w u s r h = (let a = mirrors_same plan w u s r.done in let b = r.lost s h in omega arith)

-- a test that is the same for each number
pub some_alike : (n : ℕ) (f g : ℕ → Bool) → ((i : ℕ) → f i ≡ g i) → some_below n f ≡ some_below n g
some_alike n f g h = ap (some_below n) (fun_ext h)

pub passing_alike : (n : ℕ) (f g : ℕ → Bool) → ((i : ℕ) → f i ≡ g i) → passing_below n f ≡ passing_below n g
passing_alike n f g h = ap (passing_below n) (fun_ext h)

pub other_same : (ring : RingValue) (plan : List Planned) (is_in : ℕ → Bool) (ps gs : List Bool) (w u : World) (x : ℕ) (s : Slot) → Reached ring plan w → Follows ring is_in ps gs w u → is_in s.partition ≡ true → keeps_other ring u x s ≡ keeps_other ring w x s
other_same ring plan is_in ps gs w u x s i r h = some_alike ring.n (λ j. not (j == s.index) && keeps u x (sibling s j)) (λ j. not (j == s.index) && keeps w x (sibling s j))
    (λ j. ap (λ b. not (j == s.index) && b) (keeps_same ring plan is_in ps gs w u x (sibling s j) i r h))

pub hinted_same : (ring : RingValue) (is_in : ℕ → Bool) (ps gs : List Bool) (w u : World) (s : Slot) (v : ℕ) → Follows ring is_in ps gs w u → is_of_part ps v ≡ true → some_hinted ring u s (number_in ps v) ≡ some_hinted ring w s v
hinted_same ring is_in ps gs w u s v r h = some_alike (length ring.nodes) (λ x. u.hinted x s (number_in ps v)) (λ x. w.hinted x s v) (λ x. r.hinted x s v h)

pub has_same_put : (ring : RingValue) (plan : List Planned) (is_in : ℕ → Bool) (ps gs : List Bool) (w u : World) (s : Slot) (v : ℕ) → Follows ring is_in ps gs w u → is_of_part ps v ≡ true → slot_has ring plan u s (number_in ps v) ≡ slot_has ring plan w s v
has_same_put ring plan is_in ps gs w u s v r h = rw (stage_same ring plan w u s r.done, r.stored (stage_now ring plan w s).owner.0 s v h, hinted_same ring is_in ps gs w u s v r h) refl

pub group_same : (ring : RingValue) (plan : List Planned) (is_in : ℕ → Bool) (ps gs : List Bool) (w u : World) (s : Slot) (x : ℕ) → Reached ring plan w → Follows ring is_in ps gs w u → is_in s.partition ≡ true → is_in_group ring plan u s x ≡ is_in_group ring plan w s x
group_same ring plan is_in ps gs w u s x i r h = rw (stage_same ring plan w u s r.done, keeps_same ring plan is_in ps gs w u x s i r h) refl

-- ---- slots of puts and gets

pub same_slot : (ring : RingValue) (is_in : ℕ → Bool) (ps gs : List Bool) (w u : World) (v i : ℕ) → Follows ring is_in ps gs w u → is_of_part ps v ≡ true → put_slot ring u (number_in ps v) i ≡ put_slot ring w v i
same_slot ring is_in ps gs w u v i r h = ap (λ k. slot_of ring k i) (same_key ring is_in ps gs w u v r h)

pub asked_slot : (ring : RingValue) (is_in : ℕ → Bool) (ps gs : List Bool) (w u : World) (g i : ℕ) → Follows ring is_in ps gs w u → is_of_part gs g ≡ true → get_slot ring u (number_in gs g) i ≡ get_slot ring w g i
asked_slot ring is_in ps gs w u g i r h = ap (λ k. slot_of ring k i) (same_asked ring is_in ps gs w u g r h)
