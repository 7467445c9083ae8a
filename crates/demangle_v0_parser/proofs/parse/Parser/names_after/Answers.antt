use Rattle.std.proofs.Common.{◌≡◌, Ok, sym, ap}
use Rattle.demangle_v0_parser.specs.Parsers.{machine_of}
use Rattle.demangle_v0_parser.specs.declared.Continuation.TheVariants as continuation
use Rattle.demangle_v0_parser.proofs.NestedNames.{inner_runs}
use Rattle.demangle_v0_parser.proofs.parse.Parser.names_after.Goals as goal

pub returns-in-Ok-clause-follow : goal.returns-in-Ok-clause-follow
returns-in-Ok-clause-follow g c p at before mid x on below frames d =
    let m = c.args.self.now in
    let ends : c.args.performed ≡ Ok continuation.End = rw c.in-Ok.is (ap Ok (rw c.in-Ok.is at c.requires.ends)) in
    c.plain_names.ensures.end p before (inner_runs (machine_of m c.args.output.now) x on below frames c.requires.no_pending_text (rw ends at d)) below

pub returns-in-Err-clause-follow : goal.returns-in-Err-clause-follow
returns-in-Err-clause-follow g c p at before mid x on below frames d = record {
  at = at;
  mid = mid;
  runs = x;
  does = rw (c.push_names.ensures, sym c.in-Err.is) d;
}
