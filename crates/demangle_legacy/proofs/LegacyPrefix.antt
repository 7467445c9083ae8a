-- The text after the prefix of a legacy symbol.
use Rattle.std.proofs.Common.{◌≡◌, ℕ, ◌⊎◌, inl, inr, List, ◌++◌, Option, Some, None, length, refl, ap, subst}
use Rattle.std.specs.Prelude.{codes, IsAscii}
use Rattle.std.specs.Option.{option_or}
use Rattle.std.proofs.Math.Seq.{drop-append_seam}
use Rattle.std.proofs.lemmas.Str.{IsAscii-drop}
use Rattle.demangle_legacy.specs.Legacy.{IsLegacyPrefix, inner_of}
use Rattle.demangle_symbol.specs.Prefix.{after_prefix}
use Rattle.demangle_symbol.proofs.Prefixes.{after_is}

-- each prefix is stripped

pub inner_spelled : (p x : List ℕ) → IsLegacyPrefix p → inner_of (p ++ x) ≡ Some x
unfolding inner_of
inner_spelled p x (inl e) = ap (λ q. inner_of (q ++ x)) e
inner_spelled p x (inr (inl e)) = ap (λ q. inner_of (q ++ x)) e
inner_spelled p x (inr (inr e)) = ap (λ q. inner_of (q ++ x)) e

first_is : (a b : Option (List ℕ)) (x : List ℕ) → option_or a b ≡ Some x → (a ≡ Some x) ⊎ (b ≡ Some x)
first_is None b x e = inr e
first_is (Some y) b x e = inl e

-- and the stripped text is such a prefix
pub inner_is : (s x : List ℕ) → inner_of s ≡ Some x → (prefix : List ℕ) × IsLegacyPrefix prefix × (s ≡ prefix ++ x)
unfolding inner_of
inner_is s x e = elim (first_is (after_prefix (codes "_ZN") s) (option_or (after_prefix (codes "ZN") s) (after_prefix (codes "__ZN") s)) x e) [
  | inl h ↦ (codes "_ZN", inl refl, after_is (codes "_ZN") s x h)
  | inr h ↦ elim (first_is (after_prefix (codes "ZN") s) (after_prefix (codes "__ZN") s) x h) [
    | inl k ↦ (codes "ZN", inr (inl refl), after_is (codes "ZN") s x k)
    | inr k ↦ (codes "__ZN", inr (inr refl), after_is (codes "__ZN") s x k)
  ]
]

-- the rest is ASCII if all of the text is
pub inner_ascii : (s x : List ℕ) → inner_of s ≡ Some x → IsAscii s → IsAscii x
inner_ascii s x e h =
    let p = inner_is s x e in
    subst IsAscii (drop-append_seam p.0 x) (IsAscii-drop (p.0 ++ x) (length p.0) (subst IsAscii p.2 h))
