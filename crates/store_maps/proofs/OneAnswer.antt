-- Facts of one answer among several.
use Rattle.std.proofs.Common.{◌≡◌, Bool, true, false, cond, refl, sym, subst, Option, Some, None, Result, Ok, Err}
use Rattle.std.specs.Prelude.{OnOk, OnErr, IfSome, IfNone, MatchOption, is_some}

pub on_ok : {A E : Type 0} (r : Result A E) (P Q : Type 0) → (P → Q) → OnOk r P → OnOk r Q
on_ok (Ok a) P Q f h = f h
on_ok (Err e) P Q f h = tt

pub on_err : {A E : Type 0} (r : Result A E) (P Q : Type 0) → (P → Q) → OnErr r P → OnErr r Q
on_err (Ok a) P Q f h = tt
on_err (Err e) P Q f h = f h

pub always_err : {A E : Type 0} (r : Result A E) (P : Type 0) → P → OnErr r P
always_err (Ok a) P h = tt
always_err (Err e) P h = h

-- what holds of either answer
pub on_either : {A E : Type 0} (r : Result A E) (P Q G : Type 0) → OnOk r P → OnErr r Q → (P → G) → (Q → G) → G
on_either (Ok a) P Q G p q f g = f p
on_either (Err e) P Q G p q f g = g q

pub on_option : {X : Type 0} (o : Option X) (P Q : Type 0) (F G : X → Type 0) → (P → Q) → ((x : X) → F x → G x) → MatchOption o P F → MatchOption o Q G
on_option None P Q F G f g h = f h
on_option (Some x) P Q F G f g h = g x h

pub at_some : {X : Type 0} (o : Option X) (P : Type 0) (F : X → Type 0) (x : X) → o ≡ Some x → MatchOption o P F → F x
at_some {X} o P F x e h = let t = subst (λ (u : Option X). MatchOption u P F) e h in t

pub at_none : {X : Type 0} (o : Option X) (P : Type 0) (F : X → Type 0) → o ≡ None → MatchOption o P F → P
at_none {X} o P F e h = let t = subst (λ (u : Option X). MatchOption u P F) e h in t

pub none_to : {X : Type 0} (o : Option X) (P : Type 0) (F : X → Type 0) → o ≡ None → P → MatchOption o P F
none_to {X} o P F e h = subst (λ (u : Option X). MatchOption u P F) (sym e) h

pub some_to : {X : Type 0} (o : Option X) (P : Type 0) (F : X → Type 0) (x : X) → o ≡ Some x → F x → MatchOption o P F
some_to {X} o P F x e h = subst (λ (u : Option X). MatchOption u P F) (sym e) h

pub none_from_empty : {X : Type 0} (o : Option X) → is_some o ≡ false → o ≡ None
none_from_empty None h = refl
none_from_empty (Some x) h = absurd cc

pub on_some : {X : Type 0} (o : Option X) (F G : X → Type 0) → ((x : X) → F x → G x) → IfSome o F → IfSome o G
on_some None F G g h = tt
on_some (Some x) F G g h = g x h

pub on_none : {X : Type 0} (o : Option X) (P Q : Type 0) → (P → Q) → IfNone o P → IfNone o Q
on_none None P Q f h = f h
on_none (Some x) P Q f h = tt

-- no value, where none can be
pub none_where : {X : Type 0} (o : Option X) (F : X → Type 0) → ((x : X) → F x → ⊥) → IfSome o F → o ≡ None
none_where None F h f = refl
none_where (Some x) F h f = absurd (h x f)

-- what holds of both, whichever it is
pub either : {X : Type 0} (P : X → Type 0) (b : Bool) (x y : X) → P x → P y → P (cond b x y)
either P true x y p q = p
either P false x y p q = q
