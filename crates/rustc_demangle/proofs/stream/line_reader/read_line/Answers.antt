use Rattle.std.proofs.Common.{◌≡◌, ◌≢◌, ℕ, List, ◌++◌, All, length, drop, refl, sym, ap, subst, ◌∙◌, rules, true, Ok, le_refl, drop_of_length-le}
use lib.Seq.{drop-append-le}
use Rattle.std.proofs.lemmas.List.Elements.{All-append}
use Rattle.std.specs.Io.{StartsWith}
use Rattle.std.proofs.KnownBytes.{starts_with_rest, Consumes-nil, Consumes-more}
use Rattle.std.proofs.BufReadLemmas.{Consumes_through}
use Rattle.std.specs.Io.BufRead.{take_through}
use Rattle.std.specs.Io.KnownBytes.{Consumes}
use Rattle.std.proofs.Transfers.{starts_with_of_eq, starts_with_trans, starts_with_length, All-of_none_appended}
use Rattle.std.proofs.lemmas.Option.{IfSome_then}
use Rattle.rustc_demangle.proofs.stream.line_reader.read_line.Goals as goal

-- the bytes that two calls appended, in order
past_both : (old mid new : List ℕ) → StartsWith mid old → StartsWith new mid → drop (length old) new ≡ drop (length old) mid ++ drop (length mid) new
past_both old mid new p q = ap (drop (length old)) (starts_with_rest new mid q) ∙ drop-append-le (length old) mid _ (starts_with_length mid old p)

pub loop-init : goal.loop-init
loop-init g c = (starts_with_of_eq _ _ refl, All-of_none_appended c.args.line.now.items _ _ refl, subst (Consumes _ _) (sym (drop_of_length-le c.args.line.now.items (le_refl _))) (Consumes-nil _))

pub loop-preserved : goal.loop-preserved
loop-preserved g c =
    let step = c.read_chunk.ensures in (
      starts_with_trans _ _ _ step.appends c.loop.invariant.0,
      subst (All (λ x. x ≢ 10)) (sym (past_both _ _ _ c.loop.invariant.0 step.appends)) (All-append (λ x. x ≢ 10) _ _ c.loop.invariant.1 (step.open (search rules))),
      Consumes-more _ _ _ _ _ _ c.loop.invariant.0 step.appends c.loop.invariant.2 step.bytes,
    )

pub returns-then-branch-clause-bytes : goal.returns-then-branch-clause-bytes
returns-then-branch-clause-bytes g c =
    let step = c.read_chunk.ensures in
    let done : c.read_chunk.result ≡ Ok true = search rules in
    let read = Consumes_through 10 _ _ _ _ _ c.loop.invariant.2 c.loop.invariant.1 step.bytes step.stops (step.whole done) (step.end done) in
    let old = c.args.line.now.items in
    let new = c.read_chunk.new.line.items in
    let parts = drop (length old) c.loop.line.items ++ drop (length c.loop.line.items) new in
    let whole = starts_with_rest _ _ (starts_with_trans _ _ _ step.appends c.loop.invariant.0) ∙ ap (λ l. old ++ l) (past_both _ _ _ c.loop.invariant.0 step.appends) in
    IfSome_then (g.R.Read.remaining c.args.input.now) {P = λ xs. parts ≡ take_through 10 xs} {Q = λ xs. new ≡ old ++ take_through 10 xs} read.0 (λ xs e. whole ∙ ap (λ l. old ++ l) e)

pub returns-then-branch-clause-rest : goal.returns-then-branch-clause-rest
returns-then-branch-clause-rest g c =
    let step = c.read_chunk.ensures in
    let done : c.read_chunk.result ≡ Ok true = search rules in
    (Consumes_through 10 _ _ _ _ _ c.loop.invariant.2 c.loop.invariant.1 step.bytes step.stops (step.whole done) (step.end done)).1
