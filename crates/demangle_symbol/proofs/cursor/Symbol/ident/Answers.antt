use Rattle.std.proofs.Common.{◌≡◌, ℕ, List, ◌+◌, Result, Ok, Err, IfOk, OnErr, sym, rules}
use Rattle.std.specs.Result.{result_ok}
use Rattle.demangle_symbol.specs.declared.cursor.ParseError.{ParseError}
use Rattle.demangle_symbol.specs.declared.cursor.ident.Ident.{Ident}
use Rattle.demangle_symbol.specs.Idents.{IsIdent, ident_at}
use Rattle.demangle_symbol.proofs.Idents.{ident_read, ident_there, ident_not_there}
use Rattle.demangle_symbol.proofs.cursor.Symbol.ident.Goals as goal

value_of : (s : List ℕ) (i : ℕ) (r : Result (Ident × ℕ) ParseError) → IfOk r (λ x. IsIdent s i x.1 x.0) → OnErr r ((j : ℕ) (ident : Ident) → IsIdent s i j ident → ⊥) → result_ok r ≡ ident_at s i
value_of s i (Ok x) h none = sym (ident_there s i x.1 x.0 h)
value_of s i (Err e) h none = sym (ident_not_there s i none)

pub returns-then-is_at-clause-value : goal.returns-then-is_at-clause-value
returns-then-is_at-clause-value c = value_of _ _ _ c.punycode_copy.ensures.ok c.punycode_copy.ensures.err

pub returns-clause-read : goal.returns-clause-read
returns-clause-read c =
    let from : ℕ = c.skip-from.result in
    let end : ℕ = from + c.in-Ok.len in
    let name : Ident = record { ascii = record { from = from; to = end }; punycode = record { from = end; to = end } } in
    let h : IsIdent c.args.self.now c.args.place end name = search rules in
    sym (ident_read c.args.self.now c.args.place end name h)

pub returns-clause-value : goal.returns-clause-value
returns-clause-value c =
    let from : ℕ = c.skip-from.result in
    let end : ℕ = from + c.in-Ok.len in
    let name : Ident = record { ascii = record { from = from; to = end }; punycode = record { from = end; to = end } } in
    let h : IsIdent c.args.self.now c.args.place end name = search rules in
    sym (ident_there c.args.self.now c.args.place end name h)
