use Rattle.std.proofs.Common.{arith}
use Rattle.demangle_symbol.proofs.NamePieces.{pieces_decoded, pieces_undecoded}
use Rattle.demangle_symbol.proofs.cursor.ident.Ident.write_decoded.Goals as goal

pub returns-in-Some-clause-prints : goal.returns-in-Some-clause-prints
returns-in-Some-clause-prints g c =
    rw (pieces_decoded c.args.symbol.now (record { ascii = c.args.ascii; punycode = c.args.punycode }) c.in-Some.characters.items (omega arith) (omega arith) c.in-Some.ensures.characters)
    (rw c.deref.ensures.0 at c.put_chars.ensures)

pub returns-in-None-clause-prints : goal.returns-in-None-clause-prints
returns-in-None-clause-prints g c =
    rw (pieces_undecoded c.args.symbol.now (record { ascii = c.args.ascii; punycode = c.args.punycode }) (omega arith) (omega arith) c.in-None.ensures.characters) c.write_undecoded.ensures
