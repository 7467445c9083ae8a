-- Internal: no public contract cites this.
-- The text that was put into a sink which holds a part of it.
use Rattle.std.specs.Prelude.{◌≡◌, ℕ, List, [], ◌++◌, refl}
use Rattle.std.proofs.Common.{sym, ap, ◌∙◌}
use Rattle.std.proofs.lemmas.List.{append-nil, append_assoc}
use Rattle.demangle_value.specs.declared.coalescing.CoalescingSink.{CoalescingSink}

-- the bytes followed what was held; a prefix of both was passed on, and the rest is held
pub record PassedOn {S : Type 0} {most : ℕ} (took : S → List ℕ → S → Type 0) (old : CoalescingSink S most) (bytes : List ℕ) (new : CoalescingSink S most) : Type 0 where
  pub same_sink : new.out.ghost_name ≡ old.out.ghost_name
  pub passed : List ℕ
  pub passed_on : took old.out.now passed new.out.now
  pub whole : old.held.bytes ++ bytes ≡ passed ++ new.held.bytes

pub PassedOn-nothing : {S : Type 0} {most : ℕ} (took : S → List ℕ → S → Type 0) → ((s : S) → took s [] s) → (s : CoalescingSink S most) → PassedOn took s [] s
PassedOn-nothing took nothing s = record { same_sink = refl; passed = []; passed_on = nothing s.out.now; whole = append-nil s.held.bytes }

-- the second law of a sink
abbrev pub Joins : {S : Type 0} → (S → List ℕ → S → Type 0) → Type 0
Joins {S} took = (s t u : S) (xs ys : List ℕ) → took s xs t → took t ys u → took s (xs ++ ys) u

pub PassedOn-joined : {S : Type 0} {most : ℕ} (took : S → List ℕ → S → Type 0) → Joins took
    → (s t u : CoalescingSink S most) (xs ys : List ℕ) → PassedOn took s xs t → PassedOn took t ys u → PassedOn took s (xs ++ ys) u
PassedOn-joined took joined s t u xs ys h k = record {
  same_sink = k.same_sink ∙ h.same_sink;
  passed = h.passed ++ k.passed;
  passed_on = joined s.out.now t.out.now u.out.now h.passed k.passed h.passed_on k.passed_on;
  whole = sym (append_assoc s.held.bytes xs ys) ∙ (ap (λ z. z ++ ys) h.whole ∙ (append_assoc h.passed t.held.bytes ys
      ∙ (ap (λ z. h.passed ++ z) k.whole ∙ sym (append_assoc h.passed k.passed u.held.bytes))));
}
