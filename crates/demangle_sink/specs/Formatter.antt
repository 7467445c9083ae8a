-- Internal: no public contract cites this.
-- The text that was written to a formatter.
use Rattle.std.specs.Prelude.{ℕ, List, [], ◌∷◌, ◌++◌, refl}
use Rattle.std.specs.Fmt.{HasWrittenStyled, IsFlush}
use Rattle.std.specs.List.{FoldsTo}
use Rattle.std.specs.declared.fmt.Formatter.{Formatter}
use Rattle.std.proofs.Common.{◌∙◌, sym, subst}
use Rattle.std.proofs.lemmas.List.Folds.{concat-append}

-- g is f after the bytes were written; within an indented part of a `{:#?}` it says nothing
abbrev pub FmtTook : {W : Type 0} → (W → List ℕ → W → Type 0) → Formatter W → List ℕ → Formatter W → Type 0
FmtTook took f bytes g = IsFlush f → HasWrittenStyled took f bytes g

pub FmtTook-nothing : {W : Type 0} (took : W → List ℕ → W → Type 0) (f : Formatter W) → FmtTook took f [] f
FmtTook-nothing took f flush = record { wrote = record { parts = []; calls = refl; whole = refl }; spec = refl; flush = flush }

-- steps over one list, and then over another
pub folds-append : {S : Type 0} (took : S → List ℕ → S → Type 0) (xs ys : List (List ℕ)) (s t u : S) → FoldsTo took s xs t → FoldsTo took t ys u → FoldsTo took s (xs ++ ys) u
folds-append took [] ys s t u h k = subst (λ v. FoldsTo took v ys u) (sym h) k
folds-append took (x ∷ xs) ys s t u h k = (h.0, h.1, folds-append took xs ys h.0 t u h.2 k)

pub FmtTook-joined : {W : Type 0} (took : W → List ℕ → W → Type 0) (f g h : Formatter W) (xs ys : List ℕ) → FmtTook took f xs g → FmtTook took g ys h → FmtTook took f (xs ++ ys) h
FmtTook-joined took f g h xs ys p q flush =
    let one : HasWrittenStyled took f xs g = p flush in
    let two : HasWrittenStyled took g ys h = q one.flush in
    record {
      wrote = record {
        parts = one.wrote.parts ++ two.wrote.parts;
        calls = folds-append took one.wrote.parts two.wrote.parts _ _ _ one.wrote.calls two.wrote.calls;
        whole = concat-append one.wrote.parts two.wrote.parts ∙ (λ i. one.wrote.whole i ++ two.wrote.whole i);
      };
      spec = two.spec ∙ one.spec;
      flush = two.flush;
    }
