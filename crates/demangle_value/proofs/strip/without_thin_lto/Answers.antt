use Rattle.std.proofs.Common.{sym, ap, ◌∙◌, cond}
use Rattle.demangle_value.proofs.Stripping.{stripped_split, stripped_none}
use Rattle.demangle_value.proofs.strip.without_thin_lto.Goals as goal

pub returns-in-Some : goal.returns-in-Some
returns-in-Some c =
    sym (stripped_split c.args.text.now c.in-Some.name.now c.in-Some.ending.now c.in-Some.ensures.cases
    ∙ ap (λ b. cond b c.in-Some.name.now c.args.text.now) (sym c.if-is_thin_lto.ensures))

pub returns-in_default : goal.returns-in_default
returns-in_default c =
    sym (stripped_split c.args.text.now c.in-Some.name.now c.in-Some.ending.now c.in-Some.ensures.cases
    ∙ ap (λ b. cond b c.in-Some.name.now c.args.text.now) (sym c.if-is_thin_lto.ensures))

pub returns-in_default-2 : goal.returns-in_default-2
returns-in_default-2 c = stripped_none c.args.text.now (rw c.in_default.is at c.split_once.ensures.cases)
