use Rattle.std.proofs.Common.{◌∙◌, sym, ap, arith}
use Rattle.demangle_v0_grammar.specs.ValidationLooks.{suffix_looks}
use Rattle.demangle_v0_grammar.proofs.SuffixPlace.{suffix_none, suffix_one, suffix_two}
use Rattle.demangle_v0.proofs.validation.suffix.Goals as goal

pub returns-in_default-clause-value : goal.returns-in_default-clause-value
returns-in_default-clause-value c = sym (suffix_none c.args.parser.now.source.symbol.now (sym c.in_default.is ∙ c.path_end.ensures.value)).0

pub returns-in_default-clause-looks : goal.returns-in_default-clause-looks
returns-in_default-clause-looks c = omega (arith, (suffix_none c.args.parser.now.source.symbol.now (sym c.in_default.is ∙ c.path_end.ensures.value)).1, c.path_end.ensures.looks)

pub returns-then-begins_path-clause-value : goal.returns-then-begins_path-clause-value
returns-then-begins_path-clause-value c =
    let two = suffix_two c.args.parser.now.source.symbol.now c.in-Some.end c.in-Some.ensures.value (sym (rw c.in-Some.ensures.same.0 at c.begins_path.ensures.value) ∙ c.if-begins_path.true) in
    (rw c.in-Some.ensures.same.0 at c.path_end-then-begins_path.ensures.value) ∙ sym two.0

pub returns-then-begins_path-clause-looks : goal.returns-then-begins_path-clause-looks
returns-then-begins_path-clause-looks c =
    let two = suffix_two c.args.parser.now.source.symbol.now c.in-Some.end c.in-Some.ensures.value (sym (rw c.in-Some.ensures.same.0 at c.begins_path.ensures.value) ∙ c.if-begins_path.true) in
    omega (arith, two.1, c.in-Some.ensures.looks, c.begins_path.ensures.look, rw c.in-Some.ensures.same.0 at c.path_end-then-begins_path.ensures.looks, ap (suffix_looks c.args.parser.now.source.symbol.now) (rw c.in-Some.ensures.same.0 at c.path_end-then-begins_path.ensures.value))

pub returns-clause-value : goal.returns-clause-value
returns-clause-value c = sym (suffix_one c.args.parser.now.source.symbol.now c.in-Some.end c.in-Some.ensures.value (sym (rw c.in-Some.ensures.same.0 at c.begins_path.ensures.value) ∙ c.if-begins_path.false)).0

pub returns-clause-looks : goal.returns-clause-looks
returns-clause-looks c =
    let one = suffix_one c.args.parser.now.source.symbol.now c.in-Some.end c.in-Some.ensures.value (sym (rw c.in-Some.ensures.same.0 at c.begins_path.ensures.value) ∙ c.if-begins_path.false) in
    omega (arith, one.1, c.in-Some.ensures.looks, c.begins_path.ensures.look)
