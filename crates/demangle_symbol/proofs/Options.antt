-- An option is `None` or `Some`, and not both.
use Rattle.std.proofs.Common.{◌≡◌, ◌⊎◌, inl, inr, Option, Some, None, refl}

pub option_cases : {A : Type 0} (o : Option A) → (o ≡ None) ⊎ ((x : A) × (o ≡ Some x))
option_cases None = inl refl
option_cases (Some x) = inr (x, refl)

pub none_some : {A : Type 0} (u : A) → ◌≡◌ {A = Option A} None (Some u) → ⊥
none_some u e = cc
