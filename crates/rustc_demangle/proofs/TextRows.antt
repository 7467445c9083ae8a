-- Texts with their stripped form, allowed suffixes, and lines with their filtered form, all by computation. They show
-- that these definitions agree with the Rust crate.
use Rattle.std.specs.Prelude.{◌≡◌, ℕ, true, false, List, [], ◌∷◌, ◌++◌, map, codes, refl}
use Rattle.std.specs.List.{concat}
use Rattle.std.specs.Char.{encode_utf8}
use Rattle.demangle_symbol.specs.Digits.{number}
use Rattle.demangle_value.specs.Filtered.{by_runs, filtered}
use Rattle.demangle_legacy.specs.Legacy.{inner_of, element_of, parts_within, parts_of, legacy_of}
use Rattle.rustc_demangle.specs.Lines.{lines}
use Rattle.demangle_value.specs.Stripped.{stripped, is_allowed}
use Rattle.demangle_value.specs.Limits.{most_bytes}
use Rattle.demangle_value.specs.Symbols.{handed}
use Rattle.demangle_legacy.specs.Unescaped.{escape_of_digits, escape_of, leading_unit, pieces_from, unescaped, printed_elements}
use Rattle.demangle_v0_grammar.specs.V0.{v0_in, v0_of}

endings : map stripped (codes "foo.llvm.AB" ∷ codes "foo.llvm." ∷ codes "foo.llvm.F0@9" ∷ codes "foo.llvm.AG" ∷ codes "foo.llvm.ab" ∷ codes "a.llvm.A.llvm.G" ∷ codes "a.llvm.A.llvm.B" ∷ codes "foo.llv.AB" ∷ []) ≡
    codes "foo" ∷ codes "foo" ∷ codes "foo" ∷ codes "foo.llvm.AG" ∷ codes "foo.llvm.ab" ∷ codes "a.llvm.A.llvm.G" ∷ codes "a.llvm.A.llvm.B" ∷ codes "foo.llv.AB" ∷ []
unfolding stripped
endings = refl

suffixes : map is_allowed ([] ∷ codes "." ∷ codes ".x" ∷ codes ".!~" ∷ codes "x" ∷ codes ".a b" ∷ (codes ".a" ++ 127 ∷ []) ∷ (codes ".a" ++ 0 ∷ []) ∷ []) ≡
    true ∷ true ∷ true ∷ true ∷ false ∷ false ∷ false ∷ false ∷ []
suffixes = refl

divided : map lines ([] ∷ codes "a" ∷ (97 ∷ 10 ∷ []) ∷ (10 ∷ 10 ∷ 97 ∷ []) ∷ []) ≡
    [] ∷ (codes "a" ∷ []) ∷ ((97 ∷ 10 ∷ []) ∷ []) ∷ ((10 ∷ []) ∷ (10 ∷ []) ∷ codes "a" ∷ []) ∷ []
unfolding lines
divided = refl

abbrev texts : List (List ℕ)
texts =
    codes "x _ZN8$RF$testE y" ∷
    codes "__ZN3fooE" ∷
    codes "a_ZN3fooE" ∷
    codes "_ZN3fooE.llvm.9D1C9369@@16" ∷
    codes "_ZN3fooE.llvm moocow _ZN3fooE.llvm" ∷
    codes "_ZN3fooE.a~ _ZN3fooE.llvm.AG" ∷
    codes "_R_ZN3fooE" ∷
    codes "_ZN3fooEx" ∷
    codes "_Z _ZN_ _R" ∷
    codes "<_ZN3foo17h05af221e174051e9E>" ∷
    []

with_hash : map (filtered true) texts ≡
    codes "x &test y" ∷
    codes "_foo" ∷
    codes "afoo" ∷
    codes "foo@@16" ∷
    codes "foo.llvm moocow foo.llvm" ∷
    codes "foo.a~ foo.llvm.AG" ∷
    codes "_R_ZN3fooE" ∷
    codes "_ZN3fooEx" ∷
    codes "_Z _ZN_ _R" ∷
    codes "<foo::h05af221e174051e9>" ∷
    []
unfolding by_runs stripped number inner_of element_of parts_within parts_of legacy_of escape_of_digits escape_of leading_unit pieces_from unescaped printed_elements encode_utf8 v0_in v0_of
with_hash = refl

-- `_ZN3fooE` followed by a byte of ASCII, for each of these bytes
abbrev before_each : List ℕ → List (List ℕ)
before_each bytes = map (λ b. codes "_ZN3fooE" ++ b ∷ []) bytes

-- the bytes that end a run
abbrev ends : List ℕ
ends =
    0 ∷ 1 ∷ 2 ∷ 3 ∷ 4 ∷ 5 ∷ 6 ∷ 7 ∷ 8 ∷ 9 ∷ 10 ∷ 11 ∷ 12 ∷ 13 ∷ 14 ∷ 15 ∷ 16 ∷ 17 ∷ 18 ∷ 19 ∷ 20 ∷ 21 ∷ 22 ∷ 23 ∷ 24 ∷ 25 ∷ 26 ∷ 27 ∷ 28 ∷ 29 ∷ 30 ∷ 31 ∷ 127 ∷
    codes " !\"#%&'()*+,-/:;<=>?@[\\]^`{|}~"

-- the bytes that continue a run, except for `.`, which starts a suffix
abbrev extends_prefix : List ℕ
extends_prefix = codes "$0123456789ABCDEFGHIJKLMNOPQRSTUVWXYZ_abcdefghijklmnopqrstuvwxyz"

run_ends : map (filtered true) (before_each ends) ≡ map (λ b. codes "foo" ++ b ∷ []) ends
unfolding by_runs stripped number inner_of element_of parts_within parts_of legacy_of escape_of_digits escape_of leading_unit pieces_from unescaped printed_elements encode_utf8 v0_in v0_of
run_ends = refl

run_goes_on : map (filtered true) (before_each extends_prefix) ≡ before_each extends_prefix
unfolding by_runs stripped number inner_of element_of parts_within parts_of legacy_of escape_of_digits escape_of leading_unit pieces_from unescaped printed_elements encode_utf8 v0_in v0_of
run_goes_on = refl

run_has_a_suffix : filtered true (codes "_ZN3fooE.") ≡ codes "foo."
unfolding by_runs stripped number inner_of element_of parts_within parts_of legacy_of escape_of_digits escape_of leading_unit pieces_from unescaped printed_elements encode_utf8 v0_in v0_of
run_has_a_suffix = refl

-- the text under a limit, with the marker if it is cut, and the suffix
limited : map (λ limit. concat (handed (codes "_ZN3foo3barE.x") true limit)) (0 ∷ 2 ∷ 3 ∷ 4 ∷ 5 ∷ 7 ∷ 8 ∷ []) ≡
    codes "{size limit reached}.x" ∷
    codes "{size limit reached}.x" ∷
    codes "foo{size limit reached}.x" ∷
    codes "foo{size limit reached}.x" ∷
    codes "foo::{size limit reached}.x" ∷
    codes "foo::{size limit reached}.x" ∷
    codes "foo::bar.x" ∷
    []
unfolding number inner_of element_of parts_within parts_of legacy_of escape_of_digits escape_of leading_unit pieces_from unescaped printed_elements encode_utf8 v0_in v0_of
limited = refl

-- the limit of the crate's `Display`
million : most_bytes ≡ 1000000
million = refl
