use Rattle.std.proofs.Common.{◌≡◌, ℕ, ◌+◌, List, Bool, length, drop, ap, ◌∙◌, arith}
use Rattle.std.proofs.lemmas.List.{length-drop}
use Rattle.std.specs.List.{concat}
use Rattle.demangle_value.specs.PathEnds.{path_len_of, handed_with_path_len}
use Rattle.rustc_demangle.specs.Slice.{overlay}
use Rattle.demangle_value.specs.Stripped.{stripped}
use Rattle.demangle_value.proofs.PathEndLaws.{handed_with_path_len-symbol, size_handed_with}
use Rattle.demangle_value.proofs.Stripping.{stripped-shorter}
use Rattle.demangle_value.proofs.SymbolLaws.{length-concat}
use Rattle.demangle_c_string.specs.CString.{IsRustSymbol, c_string, path_within}
use Rattle.demangle_c.proofs.kodliwe_print_part.Goals as goal

-- with the length of its path a symbol prints that path
prints : (symbol text : List ℕ) (len : ℕ) (hash : Bool) (most limit : ℕ) → text ≡ symbol → IsRustSymbol symbol → len ≡ path_len_of (stripped symbol) → most ≡ limit
    → concat (handed_with_path_len (stripped text) len hash most) ≡ path_within symbol hash limit
prints symbol text len hash most limit same named known at =
    ap (λ s. concat (handed_with_path_len (stripped s) len hash most)) same
    ∙ ap (λ n. concat (handed_with_path_len (stripped symbol) n hash most)) known
    ∙ ap concat (handed_with_path_len-symbol (stripped symbol) hash most named)
    ∙ ap (path_within symbol hash) at

pub write_path_with-wanted-requires : goal.write_path_with-wanted-requires
write_path_with-wanted-requires c =
    omega (
      arith,
      size_handed_with (stripped c.in-Some.text.now) c.args.path_len c.args.include_hash c.min-limit.result,
      stripped-shorter c.in-Some.text.now,
      ap length c.in-Some.ensures.text,
    )

pub overflow_add-result : goal.overflow_add-result
overflow_add-result c =
    let pieces = handed_with_path_len (stripped c.in-Some.text.now) c.args.path_len c.args.include_hash c.min-limit.result in
    omega (
      arith,
      c.write_path_with-wanted.ensures.len,
      length-concat pieces,
      size_handed_with (stripped c.in-Some.text.now) c.args.path_len c.args.include_hash c.min-limit.result,
      stripped-shorter c.in-Some.text.now,
      ap length c.in-Some.ensures.text,
    )

pub returns-clause-size : goal.returns-clause-size
returns-clause-size c named known =
    ap (λ n. n + 1) (c.write_path_with-wanted.ensures.len
    ∙ ap length (prints c.args.symbol.now c.in-Some.text.now c.args.path_len c.args.include_hash c.min-limit.result _ c.in-Some.ensures.text named known c.min-limit.ensures))

pub returns-clause-text : goal.returns-clause-text
returns-clause-text c named known =
    let memory = c.args.out.now in
    let start = c.args.start in
    let path = concat (handed_with_path_len (stripped c.in-Some.text.now) c.args.path_len c.args.include_hash c.min-limit.result) in
    let counted : length (drop start path) ≡ c.saturating_sub.result =
    omega (arith, length-drop start path, c.write_path_with-wanted.ensures.len, c.saturating_sub.ensures) in
    c.put_nul.ensures memory (drop start path) c.write_path_with-wanted.ensures.bytes counted
    ∙ ap (λ p. overlay memory (c_string (length memory) (drop start p)))
    (prints c.args.symbol.now c.in-Some.text.now c.args.path_len c.args.include_hash c.min-limit.result _ c.in-Some.ensures.text named known c.min-limit.ensures)

pub returns-clause-most : goal.returns-clause-most
returns-clause-most c =
    let pieces = handed_with_path_len (stripped c.in-Some.text.now) c.args.path_len c.args.include_hash c.min-limit.result in
    omega (
      arith,
      c.write_path_with-wanted.ensures.len,
      length-concat pieces,
      size_handed_with (stripped c.in-Some.text.now) c.args.path_len c.args.include_hash c.min-limit.result,
      stripped-shorter c.in-Some.text.now,
      ap length c.in-Some.ensures.text,
      c.min-limit.ensures,
    )
