-- An entry's line is read only if it is spelled so. The entry can be the next one, and each fault is the line's.
use Rattle.std.proofs.Common.{◌≡◌, ℕ, ◌<◌, Bool, true, false, cond, List, [], ◌∷◌, ◌++◌, length, map, codes, Option, Some, None, Result, Ok, refl, sym, ap, ◌∙◌, append_assoc, arith, rules, Err, IfOk, decimal, option_map}
use Rattle.std.specs.List.{AllByRecursion, join_with_byte}
use Rattle.std.specs.Str.{bytes_eq, all_ascii_digits}
use Rattle.std.proofs.lemmas.Bool.{false_from_ne_true}
use Rattle.std.proofs.lemmas.Fmt.{digits_decimal}
use Rattle.std.proofs.lemmas.List.Concat.{flat_map-cons}
use Rattle.std.proofs.lemmas.Slice.Eq.{bytes_eq-Decides}
use Rattle.script_text.proofs.Terms.{NodeId, RingValue, names_of, name_at, AreNames, is_key, Event, seen_fields, writer_at, event_fields, AreWriters, IsCount, IsEvent, IsSmall, Fits}
use Rattle.script_text.specs.declared.said.SaidWriter.{SaidWriter}
use Rattle.script_text.specs.declared.said.SaidWriter.TheVariants.{Known, New}
use Rattle.script_text.specs.declared.said.SaidEvent.{SaidEvent}
use Rattle.texts.proofs.Forms.{has_field, Refusal, is_name, line_text, spaced, whole, IsLine, IsLine-as, map_ok, At, at-whole}
use Rattle.texts.specs.Cuts.{front_of, behind_of}
use Rattle.texts.specs.Judging.{both_of, Line, Does, end_at}
use Rattle.texts.proofs.Decimals.{own}
use Rattle.texts.proofs.Halves.{AreOther, front-here, behind-here}
use Rattle.texts.proofs.Items.{both_is, both-map_right}
use Rattle.texts.proofs.Spaced.{join-more}
use Rattle.plan_runs.specs.declared.event.Entry.{Entry}
use Rattle.plan_runs.specs.declared.event.Event.TheVariants as event
use Rattle.plan_runs.specs.declared.event.Reply.{Reply}
use Rattle.plan_runs.specs.Replies.{reply_text}
use Rattle.script_text.specs.declared.said.SaidEvent.TheVariants as said
use Rattle.script_text.proofs.ScriptForm.{IsNamed, IsWriter, NamesNode, IsSaid, said_name, new-name, said_fields, begins, said-line, said_line}
use Rattle.history_text.specs.Said.{SaidEntry, reply_of, said_of}
use Rattle.history_text.specs.Reading.{reply_at, event_said, reply_said, said_at, reply_line}
use Rattle.history_text.specs.Spelling.{entry_line}
use Rattle.history_text.specs.Valid.{IsReply}
use Rattle.history_text.proofs.ReplyLaws.{reply_fields, counts-of, reply-spaced, reply-line, reply_form}
use Rattle.texts.proofs.Lates.{at-both}
use Rattle.script_text.proofs.ScriptLates.{names-fit}
use Rattle.history_text.specs.declared.said.SaidReply.{SaidReply}

-- the sign between an event and its reply
abbrev pub sign : List ℕ
sign = codes "="

-- the fields of an entry
abbrev pub entry_fields : List (List ℕ) → List (List ℕ) → Entry → List (List ℕ)
entry_fields nodes names x = event_fields nodes names x.event ++ sign ∷ reply_fields x.reply

-- the fields of what a line says
abbrev pub said_entry : RingValue → List (List ℕ) → SaidEntry → List (List ℕ)
said_entry ring names x = said_fields ring names x.0 ++ sign ∷ reply_fields x.1

-- ---- its text

join-on : (xs ys : List (List ℕ)) → has_field xs ≡ true → join_with_byte 32 (xs ++ ys) ≡ join_with_byte 32 xs ++ spaced ys
join-on [] ys p = absurd cc
join-on (x ∷ xs) ys p = join-more x xs ys

sign-spaced : (r : Reply) → spaced (sign ∷ reply_fields r) ≡ codes " = " ++ reply_text r
sign-spaced r = flat_map-cons (λ (g : List ℕ). 32 ∷ g) sign (reply_fields r) ∙ ap (λ (t : List ℕ). (32 ∷ sign) ++ t) (reply-spaced r)

-- the line of an entry is its fields, joined
pub entry-text : (nodes names : List (List ℕ)) (x : Entry) → entry_line nodes names x ≡ line_text (entry_fields nodes names x)
entry-text nodes names x =
    let words = join_with_byte 32 (event_fields nodes names x.event) in
    ap (λ (t : List ℕ). t ++ 10 ∷ []) (append_assoc words (codes " = ") (reply_text x.reply) ∙ ap (λ (t : List ℕ). words ++ t) (sym (sign-spaced x.reply))
    ∙ sym (join-on (event_fields nodes names x.event) (sign ∷ reply_fields x.reply) (begins nodes names x.event)))

-- ---- no field of an event is the sign

-- a field that passes a test which the sign does not
other-by : (test : List ℕ → Bool) (field : List ℕ) → test field ≡ true → test sign ≡ false → bytes_eq field sign ≡ false
other-by test field is other = false_from_ne_true (bytes_eq field sign) (λ h. let e : true ≡ false = sym is ∙ ap test ((bytes_eq-Decides field sign).0 h) ∙ other in absurd cc)

count-other : (n : ℕ) → IsCount n → bytes_eq (decimal n) sign ≡ false
count-other n le = other-by all_ascii_digits (decimal n) (digits_decimal own n (omega arith)) refl

name-other : (name : List ℕ) → is_name name ≡ true → bytes_eq name sign ≡ false
name-other name is = other-by is_name name is refl

key-other : (key : List ℕ) → is_key key ≡ true → bytes_eq key sign ≡ false
key-other key is = other-by is_key key is refl

writer-other : (names : List (List ℕ)) (x : SaidWriter) → IsWriter names x → bytes_eq (said_name names x) sign ≡ false
writer-other names (Known w) p = name-other (writer_at names w) p.0
writer-other names (New name) p = rw (new-name names name) (name-other name p.0)

numbers-other : (xs : List ℕ) → AllByRecursion IsCount xs → AreOther sign (map decimal xs)
numbers-other [] p = tt
numbers-other (x ∷ xs) p = (count-other x p.0, numbers-other xs p.1)

seen-other : (gets : List ℕ) → AllByRecursion IsCount gets → AreOther sign (seen_fields gets)
seen-other [] p = tt
seen-other (g ∷ gs) p = (refl, numbers-other (g ∷ gs) p)

module _ (ring : RingValue) (names : List (List ℕ)) where
  node-other : (x : NodeId) → IsNamed ring x → bytes_eq (name_at (names_of ring) x) sign ≡ false
  node-other x p = name-other (name_at (names_of ring) x) p.0

  small-other : (e : Event) → IsSmall e → IsEvent e → NamesNode ring e → AreOther sign (event_fields (names_of ring) names e)
  small-other (event.StartPut w key value gets) small is node = absurd small
  small-other (event.StartGet key) small is node = absurd small
  small-other e small is node = (search (rules, count-other, node-other))

  said-other : (v : SaidEvent) → IsSaid ring names v → AreOther sign (said_fields ring names v)
  said-other (said.Put q) p = (refl, (writer-other names q.writer p.writer, (key-other q.key p.event.0, (refl, seen-other q.seen (counts-of q.seen p.event.2.counts)))))
  said-other (said.Get key) p = (refl, (key-other key p.event, tt))
  said-other (said.Plain e) p = small-other e p.writer p.event p.node

-- ---- the line

-- what a line says may be the next entry
pub record IsSaidEntry (ring : RingValue) (history : List Entry) (names : List (List ℕ)) (x : SaidEntry) : Type 0 where
  pub room : length history < 1000000
  pub said : IsSaid ring names x.0
  pub reply : IsReply x.1

-- the fields around the sign
sign-is : (fields rest : List (List ℕ)) → behind_of sign fields ≡ Some rest → fields ≡ front_of sign fields ++ sign ∷ rest
sign-is [] rest e = absurd cc
sign-is (f ∷ fs) rest e = by (bytes_eq f sign) refl (λ h. sign-is fs rest h) e
  where
    by : (b : Bool) → bytes_eq f sign ≡ b → (behind_of sign fs ≡ Some rest → fs ≡ front_of sign fs ++ sign ∷ rest) → cond b (Some fs) (behind_of sign fs) ≡ Some rest
        → f ∷ fs ≡ cond b [] (f ∷ front_of sign fs) ++ sign ∷ rest
    by true h later e1 =
        let same : fs ≡ rest = cc in
        ap (λ (g : List ℕ). g ∷ fs) ((bytes_eq-Decides f sign).0 h) ∙ ap (λ (gs : List (List ℕ)). sign ∷ gs) same
    by false h later e1 = ap (λ (gs : List (List ℕ)). f ∷ gs) (later e1)

-- a reply that was read stands behind the sign
reply-is : (k : ℕ) (o : Option (List (List ℕ))) (r : Reply) → reply_said k o ≡ Ok r → (rest : List (List ℕ)) × (o ≡ Some rest) × (whole k (reply_at k) rest ≡ Ok r)
reply-is k None r e = absurd cc
reply-is k (Some rest) r e = (rest, refl, e)

-- each part of a line is within its limits
abbrev pub CanBeSaid : RingValue → List (List ℕ) → SaidEntry → Type 0
CanBeSaid ring names x = IsSaid ring names x.0 × IsReply x.1

-- the line of an entry is read from just its spelling
module _ (ring : RingValue) (history : List Entry) (names : List (List ℕ)) (k : ℕ) where
  pub entry-law : IsLine (said_at ring history names k) (said_entry ring names) (λ x. (length history < 1000000) × CanBeSaid ring names x)
  unfolding said_at both_of
  entry-law = record { takes = take; gives = give }
    where
      take : (fields : List (List ℕ)) (v : SaidEntry) → said_at ring history names k fields ≡ Ok v → (fields ≡ said_entry ring names v) × ((length history < 1000000) × CanBeSaid ring names v)
      take fields v e =
          let front = front_of sign fields in
          let parts = both_is (event_said ring history names k front) (reply_said k (behind_of sign fields)) v e in
          let first = (said-line ring (length history) names k).takes front v.0 parts.0 in
          let r = reply-is k (behind_of sign fields) v.1 parts.1 in
          let second = (reply-line k).takes r.0 v.1 r.2 in
          (sign-is fields r.0 r.1 ∙ ap (λ (fs : List (List ℕ)). fs ++ sign ∷ r.0) first.0 ∙ ap (λ (fs : List (List ℕ)). said_fields ring names v.0 ++ sign ∷ fs) second.0, (first.1.0, (first.1.1, second.1)))

      give : (v : SaidEntry) → (length history < 1000000) × CanBeSaid ring names v → said_at ring history names k (said_entry ring names v) ≡ Ok v
      give v p =
          let event = said_fields ring names v.0 in
          let reply = reply_fields v.1 in
          let all = said_entry ring names v in
          let other = said-other ring names v.0 p.1.0 in
          let front = front-here sign event reply all sign other refl refl in
          let behind = behind-here sign event reply all sign other refl refl in
          let first = (said-line ring (length history) names k).gives v.0 (p.0, p.1.0) in
          let second : reply_said k (Some reply) ≡ Ok v.1 = (reply-line k).gives v.1 p.1.1 in
          ap (λ (fs : List (List ℕ)). both_of (event_said ring history names k fs) (reply_said k (behind_of sign all))) (sym front)
          ∙ ap (λ (o : Option (List (List ℕ))). both_of (event_said ring history names k event) (reply_said k o)) (sym behind)
          ∙ ap (λ (r : Result SaidEvent Refusal). both_of r (reply_said k (Some reply))) first
          ∙ ap (λ (r : Result Reply Refusal). both_of (Ok v.0) r) second

  -- the same of writers and nodes that are known
  pub entry-said : AreNames (names_of ring) → AreWriters names → IsLine (said_at ring history names k) (said_entry ring names) (IsSaidEntry ring history names)
  entry-said nodes writers = IsLine-as _ _ _ _ _ (λ v. refl) (λ v p. record { room = p.0; said = p.1.0; reply = p.1.1 }) (λ v p. (p.room, (p.said, p.reply))) entry-law

-- ---- what the code reads

-- a value that was made into another before the line's end was asked for, or after
map-finished : {A B : Type 0} (f : A → B) (r : Result A Refusal) (e : Result (Unit {0}) Refusal)
    → map_ok f (map_ok (λ x. x.0) (both_of r e)) ≡ map_ok (λ x. x.0) (both_of (map_ok f r) e)
unfolding both_of
map-finished f (Ok a) (Ok b) = refl
map-finished f (Ok a) (Err d) = refl
map-finished f (Err d) (Ok b) = refl
map-finished f (Err d) (Err e) = refl

line-said : (k : ℕ) (o : Option (List (List ℕ))) → reply_line k (option_map (λ fs. record { number = k; fields = fs }) o) ≡ reply_said k o
line-said k None = refl
line-said k (Some fields) = refl

-- the line of two parts
pub judged : (ring : RingValue) (history : List Entry) (names : List (List ℕ)) (k : ℕ) (line front : Line) (behind : Option Line) (e : Result SaidEvent Refusal)
    (r : Result SaidReply Refusal) (all : Result (SaidEvent × SaidReply) Refusal) → k ≡ line.number
    → front ≡ record { number = line.number; fields = front_of (codes "=") line.fields }
    → behind ≡ option_map (λ fs. record { number = line.number; fields = fs }) (behind_of (codes "=") line.fields)
    → e ≡ event_said ring history names front.number front.fields → map_ok reply_of r ≡ reply_line k behind → all ≡ both_of e r
    → map_ok said_of all ≡ said_at ring history names line.number line.fields
unfolding said_at
judged ring history names k line front behind e r all same in_front rest event reply is =
    let second = reply ∙ ap (λ (j : ℕ). reply_line j behind) same ∙ ap (reply_line line.number) rest ∙ line-said line.number (behind_of (codes "=") line.fields) in
    ap (λ (x : Result (SaidEvent × SaidReply) Refusal). map_ok said_of x) is ∙ sym (both-map_right reply_of e r) ∙ ap (λ (x : Result Reply Refusal). both_of e x) second
    ∙ ap (λ (x : Result SaidEvent Refusal). both_of x (reply_said line.number (behind_of (codes "=") line.fields))) (event ∙ ap (λ (l : Line). event_said ring history names l.number l.fields) in_front)

-- the fields after the sign, to the line's end
pub finished : (k : ℕ) (line new : Line) (r all : Result SaidReply Refusal) → Does reply_at line (map_ok reply_of r) new
    → all ≡ map_ok (λ x. x.0) (both_of r (end_at new.number new.fields).0) → map_ok reply_of all ≡ reply_line k (Some line)
finished k line new r all does is = rw (is, map-finished reply_of r (end_at new.number new.fields).0, does.0, does.1) refl

-- ---- the next entry

-- each answer that is the line's can be the next: there is room, and the event's writer can be numbered
pub next-if : (ring : RingValue) (history : List Entry) (names : List (List ℕ)) (k : ℕ) (fields : List (List ℕ)) (r : Result (SaidEvent × SaidReply) Refusal)
    → map_ok said_of r ≡ said_at ring history names k fields → IfOk r (λ x. length history < 1000000) × IfOk r (λ x. Fits names x.0)
next-if ring history names k fields (Ok x) e = (let p = ((entry-law ring history names k).takes fields (said_of x) (sym e)).1 in (p.0, names-fit names x.0 p.1.0.writer))
next-if ring history names k fields (Err d) e = (tt, tt)

-- ---- faults

reply-at : (k : ℕ) (o : Option (List (List ℕ))) → At k (reply_said k o)
reply-at k None = refl
reply-at k (Some fields) = at-whole k (reply_at k) (reply_form.judges k) fields

pub said-at : (ring : RingValue) (history : List Entry) (names : List (List ℕ)) (k : ℕ) (fields : List (List ℕ)) → At k (said_at ring history names k fields)
unfolding said_at
said-at ring history names k fields =
    at-both k (event_said ring history names k (front_of (codes "=") fields)) (reply_said k (behind_of (codes "=") fields))
    ((said_line ring (length history) names).at k (front_of (codes "=") fields)) (reply-at k (behind_of (codes "=") fields))
