-- The front of a bundle.
use Rattle.std.specs.Prelude.{◌≡◌, ℕ, List, ◌++◌, Ok}
use Rattle.texts.specs.Parts.{lines_of}
use Rattle.ring_table.specs.Spelling.{ring_text}
use Rattle.ring_table.specs.Valid.{IsRing}
use Rattle.plan_text.specs.Spelling.{plan_text}
use Rattle.plan_cert.specs.Spelling.{cert_text}
use Rattle.plan_cert.specs.declared.front.Front.{Front}
use Rattle.plan_cert.specs.Front.{front_at}
use Rattle.history_text.specs.declared.front.FrontText.{FrontText}

-- a ring's text, its plan's, and a certificate's
abbrev pub front_text : Front → List ℕ
front_text x = ring_text x.ring ++ (plan_text x.ring x.plan ++ cert_text x.ring x.cert)

-- of a front the ring and the text were returned, with which the bytes begin, and the number of the line after it
pub record IsFront (bytes : List ℕ) (front : FrontText) (value : Front) (rest : List ℕ) : Type 0 where
  pub valid : IsRing front.ring
  pub ring_is : front.ring ≡ value.ring
  pub text_is : front.text.items ≡ front_text value
  pub whole : bytes ≡ front.text.items ++ rest
  pub read : front_at (record { line = 1; lines = lines_of bytes }) ≡ Ok (value, record { line = front.line; lines = lines_of rest })
