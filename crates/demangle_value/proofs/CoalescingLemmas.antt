-- What a sink took through one that holds pieces.
use Rattle.std.proofs.Common.{◌≡◌, ℕ, List, [], ◌++◌, sym, ap, subst, ◌∙◌}
use Rattle.std.proofs.lemmas.List.{append-nil}
use Rattle.demangle_value.specs.declared.coalescing.CoalescingSink.{CoalescingSink}
use Rattle.demangle_value.specs.Coalescing.{Joins, PassedOn}

-- the held bytes were passed on, and then a piece alone
pub passed_on_alone : {S : Type 0} {most : ℕ} (took : S → List ℕ → S → Type 0) → Joins took → (s t : CoalescingSink S most) (at : S) (piece : List ℕ)
    → t.out.ghost_name ≡ s.out.ghost_name → took s.out.now s.held.bytes at → took at piece t.out.now → t.held.bytes ≡ []
    → PassedOn took s piece t
passed_on_alone took joined s t at piece same first second empty = record {
  same_sink = same;
  passed = s.held.bytes ++ piece;
  passed_on = joined s.out.now at t.out.now s.held.bytes piece first second;
  whole = sym (append-nil (s.held.bytes ++ piece)) ∙ ap (λ z. (s.held.bytes ++ piece) ++ z) (sym empty);
}

-- bytes were put after nothing was held, and then all that was held was passed on
pub all_passed_on : {S : Type 0} {most : ℕ} (took : S → List ℕ → S → Type 0) → Joins took → (s t : CoalescingSink S most) (new : S) (bytes : List ℕ)
    → s.held.bytes ≡ [] → PassedOn took s bytes t → took t.out.now t.held.bytes new → took s.out.now bytes new
all_passed_on took joined s t new bytes empty put flushed =
    subst (λ z. took s.out.now z new) (sym put.whole ∙ ap (λ z. z ++ bytes) empty)
    (joined s.out.now t.out.now new put.passed t.held.bytes put.passed_on flushed)
