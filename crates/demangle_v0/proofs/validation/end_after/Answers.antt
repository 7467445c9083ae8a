use Rattle.std.proofs.Common.{◌∙◌, sym, arith}
use Rattle.demangle_v0_grammar.proofs.LooksLaw.{second_path_costs}
use Rattle.demangle_v0_grammar.proofs.SuffixPlace.{suffix_one, suffix_two}
use Rattle.demangle_v0.proofs.validation.end_after.Goals as goal

pub returns-then-not-begins_path-clause-value : goal.returns-then-not-begins_path-clause-value
returns-then-not-begins_path-clause-value c =
    sym (suffix_one c.args.parser.now.source.symbol.now c.args.end c.requires.first (sym c.begins_path.ensures.value ∙ c.if-not-begins_path.true)).0

pub returns-clause-value : goal.returns-clause-value
returns-clause-value c =
    let two = suffix_two c.args.parser.now.source.symbol.now c.args.end c.requires.first (sym c.begins_path.ensures.value ∙ c.if-not-begins_path.false) in
    c.path_end.ensures.value ∙ sym two.0

pub returns-clause-most : goal.returns-clause-most
returns-clause-most c = omega (arith, c.begins_path.ensures.look, c.path_end.ensures.looks, second_path_costs c.args.parser.now.source.symbol.now c.args.end c.requires.first)
