-- Reading a layout: the facts of a text, or its first fault.
use Rattle.std.specs.Prelude.{ℕ, ◌==◌, ◌&&◌, not, nat_lt, nat_le, Bool, List, [], ◌∷◌, ◌++◌, length, map, slice_index, codes, is_some, Result, Ok, Err, if◌then◌else◌}
use Rattle.std.specs.Char.{is_control}
use Rattle.std.specs.List.{list_any}
use Rattle.std.specs.Str.{bytes_eq, chars, is_utf8}
use Rattle.ring_names.specs.Names.{place}
use Rattle.ring_names.specs.declared.refusal.Refusal.{Refusal}
use Rattle.ring_names.specs.declared.refusal.Refusal.TheVariants.{BadLine, TooLarge, Repeated}
use Rattle.texts.specs.Name.{is_name}
use Rattle.texts.specs.Number.{decimal_value}
use Rattle.texts.specs.Judging.{Item, ◌⊗◌, field_at, number_at, end_at, limited, map_ok, whole, unless}
use Rattle.texts.specs.Left.{Left, ◌>>=◌, begins_with, first_line, is_nil, next_number, one_line, then_part, map_part, whole_text}
use Rattle.texts.specs.Frames.{header_at, end_line_at}
use Rattle.change_text.specs.declared.layout.Fact.{Fact}
use Rattle.change_text.specs.declared.layout.Fact.TheVariants.{Rack, Weight, Alias, Size, Dead}
use Rattle.change_text.specs.declared.layout.Entry.{Entry}
use Rattle.change_text.specs.declared.layout.Layout.{Layout}
use Rattle.change_text.specs.Facts.{subject_of}

-- a name of a node or a rack
abbrev pub name_at : ℕ → Item (List ℕ)
name_at k = field_at k (λ field. if is_name field then Ok field else Err (BadLine k))

-- a number from 1 to 1,000
abbrev pub parts_at : ℕ → Item ℕ
parts_at k = field_at k (λ field. limited k 1000 (decimal_value field) >>= λ n. unless ((n == 0, BadLine k) ∷ []) n)

-- 1 to 255 bytes of UTF-8 without control characters
abbrev pub is_alias : List ℕ → Bool
is_alias bs = nat_le 1 (length bs) && nat_le (length bs) 255 && is_utf8 bs && not (list_any is_control (chars bs))

-- an alias
abbrev pub alias_at : ℕ → Item (List ℕ)
alias_at k = field_at k (λ field. if is_alias field then Ok field else Err (BadLine k))

-- what follows `rack`: a node and its rack
unfoldable pub rack_at : ℕ → List (List ℕ) → Result Fact Refusal
rack_at k fields = map_ok (λ x. Rack x.0 x.1) (whole k (name_at k ⊗ name_at k) fields)

-- what follows `weight`: a node and its weight
unfoldable pub weight_at : ℕ → List (List ℕ) → Result Fact Refusal
weight_at k fields = map_ok (λ x. Weight x.0 x.1) (whole k (name_at k ⊗ parts_at k) fields)

-- what follows `alias`: a node and its alias
unfoldable pub alias_line_at : ℕ → List (List ℕ) → Result Fact Refusal
alias_line_at k fields = map_ok (λ x. Alias x.0 x.1) (whole k (name_at k ⊗ alias_at k) fields)

-- what follows `size`: a partition and its size
unfoldable pub size_at : ℕ → List (List ℕ) → Result Fact Refusal
size_at k fields = map_ok (λ x. Size x.0 x.1) (whole k (number_at k 4095 ⊗ number_at k 281474976710655) fields)

-- what follows `dead`: a node
unfoldable pub dead_at : ℕ → List (List ℕ) → Result Fact Refusal
dead_at k fields = map_ok Dead (whole k (name_at k) fields)

-- what follows the word of that kind
abbrev pub fact_at : List ℕ → ℕ → List (List ℕ) → Result Fact Refusal
fact_at kind k fields =
    if bytes_eq kind (codes "rack") then rack_at k fields
    else if bytes_eq kind (codes "weight") then weight_at k fields
    else if bytes_eq kind (codes "alias") then alias_line_at k fields
    else if bytes_eq kind (codes "size") then size_at k fields
    else if bytes_eq kind (codes "dead") then dead_at k fields
    else Err (BadLine k)

-- the entries with the fact of line k, if they are not too many and none is about the same
abbrev pub with_fact : List Entry → ℕ → Fact → Result (List Entry) Refusal
with_fact seen k fact = unless (
    (not (nat_lt (length seen) 8192), TooLarge k)
    ∷ (is_some (place (map (λ x. subject_of x.fact) seen) (subject_of fact)), Repeated k)
    ∷ []) (seen ++ record { line = k; fact = fact } ∷ [])

-- the entries with what line k says: a blank line and a comment say nothing
abbrev pub with_line : List Entry → ℕ → List (List ℕ) → Result (List Entry) Refusal
with_line seen k [] = Ok seen
with_line seen k (kind ∷ fields) =
    if is_nil kind then map_ok (λ _. seen) (end_at k fields).0
    else if slice_index kind 0 == 35 then Ok seen
    else (fact_at kind k fields >>= λ fact. with_fact seen k fact)

-- lines up to one that begins with `end`, each after those seen
abbrev pub entries_from : List Entry → ℕ → List (List (List ℕ)) → Result (List Entry × Left) Refusal
entries_from seen k [] = Err (BadLine k)
entries_from seen k (line ∷ more) = if begins_with (codes "end") (line ∷ more)
    then Ok (seen, record { line = k; lines = line ∷ more })
    else (first_line k (line ∷ more) >>= λ _. with_line seen k line >>= λ now. entries_from now (next_number k) more)

-- the lines of a layout, one part after the other
unfoldable pub layout_at : Left → Result (Layout × Left) Refusal
layout_at = map_part (λ (x : Unit {0} × (List Entry × Unit {0})). record { entries = x.1.0 })
    (then_part (one_line (header_at (codes "layout") (codes "1"))) (λ _.
    then_part (λ s. entries_from [] s.line s.lines) (λ _.
    one_line end_line_at)))

-- a whole text
abbrev pub layout_reading : List ℕ → Result Layout Refusal
layout_reading text = whole_text layout_at text
