-- A script is read only from its one text.
use Rattle.std.proofs.Common.{◌≡◌, ℕ, List, codes, Result, Ok, Err, refl, IfOk}
use Rattle.texts.proofs.Forms.{Section, Any, Left, header_at, header, ending, then, made, text-found, text-given, some-first, Refusal, map_ok, Reads}
use Rattle.texts.specs.Judging.{Gives}
use Rattle.script_text.proofs.Terms.{RingValue, IsRing, Event, Anyone, AreWriters, IsScriptOf}
use Rattle.ring_table.proofs.NodesLaws.{names-of}
use Rattle.script_text.specs.Spelling.{script_text}
use Rattle.script_text.specs.Reading.{events_at, section_at, script_at, script_reading}
use Rattle.script_text.proofs.Growing.{Ends, growing}
use Rattle.script_text.proofs.ScriptForm.{words-plain, script_growth}
use Rattle.script_text.proofs.SightLaws.{script_said, says-script, script-says}

-- the lines of a script after these writers
abbrev pub body_form : RingValue → List (List ℕ) → Section (Unit {0}) Any ((List Event × List (List ℕ)) × Unit {0})
body_form ring old = then Ends Any (growing (script_growth Anyone ring) (script_said ring) old) (λ _. ending) (λ w x y l ls p q d. refl)

abbrev pub script_form : RingValue → List (List ℕ) → Section (Unit {0}) Any (List Event × List (List ℕ))
script_form ring old = made Any (λ x. x.1.0) (λ v. (tt, (v, tt))) (λ x. refl) (λ y. refl) (then Any Any (header (codes "script") (codes "1") words-plain.0 words-plain.1) (λ _. body_form ring old) (λ w x y l ls p q d. tt))

-- what is read of a text was spelled so
pub read-found : (ring : RingValue) (old : List (List ℕ)) (text : List ℕ) (v : List Event × List (List ℕ)) → script_reading ring old text ≡ Ok v → AreWriters old → IsScriptOf ring old v.1 v.0 × (text ≡ script_text ring v.1 v.0)
unfolding section_at events_at
read-found ring old text v e good = (let h = text-found (script_form ring old) tt text v e in (says-script ring old v good h.0.1.0, h.1))

-- what is spelled so is read of a text
pub read-only : (ring : RingValue) (old names : List (List ℕ)) (text : List ℕ) (script : List Event) → IsRing ring → IsScriptOf ring old names script → text ≡ script_text ring names script → script_reading ring old text ≡ Ok (script, names)
unfolding section_at events_at
read-only ring old names text script r p e = text-given (script_form ring old) tt text (script, names) (tt, (script-says ring (names-of ring r) script old names p, tt)) e

-- what is read of a section is a script
pub section-found : (ring : RingValue) (old : List (List ℕ)) (s : Left) (v : List Event × List (List ℕ)) (t : Left) → script_at ring old s ≡ Ok (v, t) → AreWriters old → IsScriptOf ring old v.1 v.0
unfolding section_at events_at
section-found ring old s v t e good = says-script ring old v good (((script_form ring old).exact tt).takes s t v (some-first (λ x. x.1.0) (header_at (codes "script") (codes "1")) (λ _. (body_form ring old).read) s t v e) e).1.1.0

-- ---- what is known of all that reading gives is known of what was returned, as it is kept, beside the writers

-- of a whole text
pub kept-gives : {A B C : Type 0} (r : Result A Refusal) (f : A → C) (names : B) (read : Result (C × B) Refusal) (P : C → B → Type 0)
    → Gives (map_ok (λ s. (f s, names)) r) read → ((v : C × B) → read ≡ Ok v → P v.0 v.1) → IfOk r (λ s. P (f s) names)
kept-gives (Ok s) f names read P g p = p (f s, names) g
kept-gives (Err e) f names read P g p = tt

-- of a section
pub kept-reads : {A B C : Type 0} (r : Result A Refusal) (f : A → C) (names : B) (new : Left) (read : Result ((C × B) × Left) Refusal) (P : C → B → Type 0)
    → Reads (map_ok (λ s. (f s, names)) r) new read → ((v : C × B) (t : Left) → read ≡ Ok (v, t) → P v.0 v.1) → IfOk r (λ s. P (f s) names)
kept-reads (Ok s) f names new read P g p = p (f s, names) new g
kept-reads (Err e) f names new read P g p = tt
