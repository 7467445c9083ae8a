use Rattle.std.proofs.Common.{arith}
use Rattle.demangle_symbol.proofs.NamePieces.{pieces_plain}
use Rattle.demangle_symbol.proofs.cursor.ident.Ident.write_to.Goals as goal

pub returns-then-self-clause-prints : goal.returns-then-self-clause-prints
returns-then-self-clause-prints g c = rw (pieces_plain c.args.symbol.now c.args.self.now (omega arith)) (rw c.span.ensures at c.write_to.ensures)
