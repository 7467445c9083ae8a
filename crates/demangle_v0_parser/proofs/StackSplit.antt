-- A stack of frames above those that were on it before.
use Rattle.std.specs.Prelude.{◌≤◌, length}
use Rattle.std.proofs.Common.{◌≡◌, List, [], ◌∷◌, ◌++◌, refl, sym, ap, ◌∙◌, arith}

module _ {F : Type 0} where
  one_more : (f g : F) (xs ys : List F) → f ∷ xs ≡ g ∷ ys → (f ≡ g) × (xs ≡ ys)
  one_more f g xs ys e = (cc, cc)

  -- the top frame of a longer stack is not one of those below
  pub above_pop : (below above stack : List F) (f : F) → stack ++ f ∷ [] ≡ below ++ above → length below ≤ length stack → (rest : List F) × (above ≡ rest ++ f ∷ []) × (stack ≡ below ++ rest)
  above_pop [] above stack f e l = (stack, sym e, refl)
  above_pop (g ∷ below) above [] f e l = absurd (omega (arith, l))
  above_pop (g ∷ below) above (h ∷ stack) f e l =
      let heads = one_more h g (stack ++ f ∷ []) (below ++ above) e in
      let inner = above_pop below above stack f heads.1 (omega (arith, l)) in
      (inner.0, inner.1, ap (λ (x : F). x ∷ stack) heads.0 ∙ ap (λ (r : List F). g ∷ r) inner.2)
