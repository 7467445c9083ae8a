use Rattle.std.proofs.Common.{ap}
use Rattle.kodliwe_program.specs.Parts.{part_of}
use Rattle.kodliwe_program.proofs.PartLemmas.{text_written, text_stopped, line_written, line_stopped}
use Rattle.kodliwe_program.proofs.filtering.Part.write.Goals as goal

pub returns-in-Ok-clause-ok : goal.returns-in-Ok-clause-ok
returns-in-Ok-clause-ok g c =
    text_written c.args.settings.format c.args.symbols.now.memo _ _ _ _ _ c.requires (ap (part_of g.R.Read.remaining) c.in-Text.is) (ap g.R.Read.remaining c.new-noting.ensures) c.in-Ok.ensures.ok

pub returns-in-Err-clause-err : goal.returns-in-Err-clause-err
returns-in-Err-clause-err g c =
    text_stopped c.args.settings.format c.args.symbols.now.memo _ _ _ _ _ _ c.requires (ap (part_of g.R.Read.remaining) c.in-Text.is) (ap g.R.Read.remaining c.new-noting.ensures) c.in-Err.ensures.err

pub returns-in-Ok-write_line-clause-ok : goal.returns-in-Ok-write_line-clause-ok
returns-in-Ok-write_line-clause-ok g c =
    line_written c.args.settings.format c.args.symbols.now.memo _ c.in-Argument.argument.now _ _ c.requires (ap (part_of g.R.Read.remaining) c.in-Argument.is) c.in-Ok-write_line.ensures.ok

pub returns-in-Err-write_line-clause-err : goal.returns-in-Err-write_line-clause-err
returns-in-Err-write_line-clause-err g c =
    line_stopped c.args.settings.format c.args.symbols.now.memo _ _ c.in-Argument.argument.now _ _ c.requires (ap (part_of g.R.Read.remaining) c.in-Argument.is) c.in-Err-write_line.ensures.err
