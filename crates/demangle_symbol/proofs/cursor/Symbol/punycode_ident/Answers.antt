use Rattle.demangle_symbol.proofs.Idents.{after_u, no_ident_length}
use Rattle.demangle_symbol.proofs.cursor.Symbol.punycode_ident.Goals as goal

pub returns-in_default-clause-err : goal.returns-in_default-clause-err
returns-in_default-clause-err c = no_ident_length _ _ _ (after_u _ _ c.requires.u) c.requires.fits c.in_default.ensures.err
