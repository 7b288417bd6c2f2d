-- Merges, one after the other.
use Rattle.std.proofs.Common.{◌≡◌, ◌⊎◌, inl, inr, List, [], subst}
use Rattle.ring_clock.specs.declared.entry.Entry.{Entry}
use Rattle.ring_versions.specs.Fresh.{IsFreshFor}
use Rattle.ring_versions.specs.declared.fresh.Fresh.{Fresh}
use Rattle.ring_versions.specs.declared.version.Version.{Version}
use Rattle.ring_versions.specs.Versions.{IsIn, Covers, IsApart, IsMerge}

-- nothing comes
pub merge_none : (a : List Version) → IsApart a → IsMerge a [] a
merge_none a apart = record {
  drawn = λ v h. inl h;
  covers = λ k. (λ h. inl h, λ h. elim h [ inl old ↦ old | inr new ↦ absurd new.1 ]);
  apart = apart;
}

-- nothing was held
pub merge_first : (b : List Version) → IsApart b → IsMerge [] b b
merge_first b apart = record {
  drawn = λ v h. inr h;
  covers = λ k. (λ h. inr h, λ h. elim h [ inl old ↦ absurd old.1 | inr new ↦ new ]);
  apart = apart;
}

-- what was held comes to what came
pub merge_turned : (a b c : List Version) → IsMerge a b c → IsMerge b a c
merge_turned a b c m = record {
  drawn = λ v h. elim (m.drawn v h) [ inl old ↦ inr old | inr new ↦ inl new ];
  covers = λ k. (λ h. elim ((m.covers k).0 h) [ inl old ↦ inr old | inr new ↦ inl new ], λ h. (m.covers k).1 (elim h [ inl new ↦ inr new | inr old ↦ inl old ]));
  apart = m.apart;
}

-- b comes, and then d: in all f, which has both and covers no more
pub merge_again : (a b c d e f : List Version) → ((v : Version) → IsIn v b → IsIn v f) → ((v : Version) → IsIn v d → IsIn v f)
    → ((k : List Entry) → Covers f k → Covers b k ⊎ Covers d k) → IsMerge a b c → IsMerge c d e → IsMerge a f e
merge_again a b c d e f first second both m n = record {
  drawn = λ v h. elim (n.drawn v h) [
    | inl old ↦ elim (m.drawn v old) [ inl older ↦ inl older | inr new ↦ inr (first v new) ]
    | inr new ↦ inr (second v new)
  ];
  covers = λ k. (
    λ h. elim ((n.covers k).0 h) [
      | inl old ↦ elim ((m.covers k).0 old) [ inl older ↦ inl older | inr new ↦ inr (new.0, first new.0 new.1, new.2) ]
      | inr new ↦ inr (new.0, second new.0 new.1, new.2)
    ],
    λ h. elim h [
      | inl old ↦ (n.covers k).1 (inl ((m.covers k).1 (inl old)))
      | inr new ↦ elim (both k new) [ inl mine ↦ (n.covers k).1 (inl ((m.covers k).1 (inr mine))) | inr later ↦ (n.covers k).1 (inr later) ]
    ],
  );
  apart = n.apart;
}

-- then nothing comes
pub merge_then_none : (a b c e : List Version) → IsMerge a b c → IsMerge c [] e → IsMerge a b e
merge_then_none a b c e m n = merge_again a b c [] e b (λ v h. h) (λ v h. absurd h) (λ k h. inl h) m n

-- nothing came before
pub merge_after_none : (a c d e : List Version) → IsMerge a [] c → IsMerge c d e → IsMerge a d e
merge_after_none a c d e m n = merge_again a [] c d e d (λ v h. absurd h) (λ v h. h) (λ k h. inr h) m n

-- a merge that was said of what stood in the map
pub merge_of : (held v w : List Version) (f : Fresh) → v ≡ held → ((other : List Version) → IsFreshFor v other f → IsMerge v other w)
    → (more : List Version) → IsFreshFor held more f → IsMerge held more w
merge_of held v w f e h = subst (λ (u : List Version). (more : List Version) → IsFreshFor u more f → IsMerge u more w) e h
