-- The exits of `?`.
use Rattle.std.proofs.Common.{◌≡◌, Option, None, Result, Err, ap, ◌∙◌, arith}
use Rattle.std.proofs.lemmas.Result.{err_from_is_err_and}
use Rattle.std.specs.Option.{ok_or}
use Rattle.std.specs.Result.{IsErrAnd}
use Rattle.demangle_symbol.specs.declared.cursor.ParseError.{ParseError}
use Rattle.demangle_symbol.specs.declared.cursor.ParseError.TheVariants as error
use Rattle.demangle_v0_tokens.specs.declared.fixed_texts.FixedText.TheVariants as fixed
use Rattle.demangle_v0_parser.specs.Productions.{error_text_of}
use Rattle.demangle_v0_parser.specs.declared.Continuation.{Continuation}
use Rattle.demangle_v0_parser.specs.declared.StepError.{StepError}
use Rattle.demangle_v0_parser.specs.declared.StepError.TheVariants.{Abort}

err_same : {A : Type 0} {x z : StepError} → ◌≡◌ {A = Result A StepError} (Err x) (Err z) → x ≡ z
err_same q = grind arith

-- the result of such an exit
pub stops : {x z : StepError} (r : Result Continuation StepError) → IsErrAnd r (λ y. y ≡ x) → x ≡ z → r ≡ Err z
stops r k q = let p = err_from_is_err_and r k in p.1 ∙ ap Err (p.2 ∙ q)

-- after a primitive that is not spelled
pub stops_invalid : {e : ParseError} (r : Result Continuation StepError) → IsErrAnd r (λ y. y ≡ Abort (error_text_of e)) → e ≡ error.Invalid → r ≡ Err (Abort fixed.Invalid)
stops_invalid r k q = stops r k (ap (λ e. Abort (error_text_of e)) q)

-- if there is no value
pub stops_none : {A : Type 0} {x z : StepError} (r : Result Continuation StepError) {o : Option A} → IsErrAnd r (λ y. y ≡ x) → ◌≡◌ {A = Result A StepError} (Err x) (ok_or o z) → o ≡ None → r ≡ Err z
stops_none {z} r k q n = stops r k (err_same (q ∙ ap (λ o. ok_or o z) n))
