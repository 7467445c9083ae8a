use Rattle.std.proofs.Common.{ap}
use Rattle.kodliwe_program.specs.CommandLine.{options_of}
use Rattle.kodliwe_program.specs.declared.arguments.InputSource.TheVariants.{Symbol}
use Rattle.kodliwe_program.proofs.ArgumentLemmas.{parts_pushed}
use Rattle.kodliwe_program.proofs.arguments.Request.add_symbol.Goals as goal

pub returns : goal.returns
returns c = ap (λ l. record (options_of c.args.self.now) { parts = l }) (parts_pushed c.args.self.now.sources.items _ (Symbol c.args.argument) c.in_ok-push.ensures.items)
