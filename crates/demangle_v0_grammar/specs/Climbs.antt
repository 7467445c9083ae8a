-- Internal: no public contract cites this.
-- The bytes that the references of a trace have read again.
use Rattle.std.specs.Prelude.{◌≡◌, ℕ, ◌+◌, ◌-◌, ◌≤◌, List, [], ◌∷◌}
use Rattle.demangle_v0_grammar.specs.References.{bytes_after}
use Rattle.demangle_v0_grammar.specs.Traces.{Event, prints_text, allows, refers, returns}

-- In a symbol of n bytes, from u on, they are at most `top` at once, and e in the end.
abbrev pub Climbs : (n top : ℕ) → List Event → (u e : ℕ) → Type 0
Climbs n top [] u e = u ≡ e
Climbs n top (prints_text t ∷ xs) u e = Climbs n top xs u e
Climbs n top (allows k ∷ xs) u e = Climbs n top xs u e
Climbs n top (refers t ∷ xs) u e = (u + (n - t + 1) ≤ top) × Climbs n top xs (u + (n - t + 1)) e
Climbs n top (returns p ∷ xs) u e = (1 ≤ bytes_after n p) × (bytes_after n p ≤ u) × Climbs n top xs (u - bytes_after n p) e

-- the same of a print, which gives back no more than is used; no reference leads to an error
abbrev pub Ran : (n top : ℕ) → List Event → (u e : ℕ) → Type 0
Ran n top [] u e = u ≡ e
Ran n top (prints_text t ∷ xs) u e = Ran n top xs u e
Ran n top (allows k ∷ xs) u e = Ran n top xs u e
Ran n top (refers t ∷ xs) u e = (u + (n - t + 1) ≤ top) × Ran n top xs (u + (n - t + 1)) e
Ran n top (returns p ∷ xs) u e = (1 ≤ bytes_after n p) × Ran n top xs (u - bytes_after n p) e

-- how many references are followed
abbrev pub followed_in : List Event → ℕ
followed_in [] = 0
followed_in (prints_text t ∷ xs) = followed_in xs
followed_in (allows k ∷ xs) = followed_in xs
followed_in (refers t ∷ xs) = followed_in xs + 1
followed_in (returns p ∷ xs) = followed_in xs
