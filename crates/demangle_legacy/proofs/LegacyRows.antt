-- Symbols with their printed texts, by computation. The definitions agree with the Rust crate here.
use Rattle.std.proofs.Common.{◌≡◌, ℕ, Bool, true, false, List, [], ◌∷◌, ◌++◌, Option, Some, None, map, option_map, refl}
use Rattle.std.specs.Prelude.{codes}
use Prim.Native.String.{String}
use Rattle.std.specs.List.{concat}
use Rattle.std.specs.Char.{encode_utf8}
use Rattle.demangle_symbol.specs.Digits.{number}
use Rattle.demangle_legacy.specs.Legacy.{inner_of, element_of, parts_within, parts_of, legacy_of}
use Rattle.demangle_legacy.specs.Unescaped.{escape_of_digits, escape_of, leading_unit, pieces_from, unescaped, printed_elements, legacy_pieces}

abbrev text : Bool → List ℕ → Option (List ℕ)
text hash symbol = option_map (λ read. concat (legacy_pieces (record { include_hash = hash; fold_arguments = false }) read.0) ++ read.1) (legacy_of symbol)

-- a symbol, and the text of both forms
abbrev same : List (String × String)
same =
    ("_ZNE", "") ∷
    ("_ZN10a$XX$b..cdE", "a$XX$b..cd") ∷
    ("_ZN5a...bE", "a::.b") ∷
    ("_ZN4_$C$E", ",") ∷
    ("_ZN5a$u7$E", "a$u7$") ∷
    ("_ZN2$$E", "$$") ∷
    ("_ZN14$u00000000041$E", "A") ∷
    ("_ZN003fooE", "foo") ∷
    ("_ZN3fooE.x", "foo.x") ∷
    ("_ZN3fooE.llvm.x.llvm.AB", "foo.llvm.x.llvm.AB") ∷
    ("_ZN4testE", "test") ∷
    ("_ZN4test1a2bcE", "test::a::bc") ∷
    ("_ZN4$RP$E", ")") ∷
    ("_ZN8$RF$testE", "&test") ∷
    ("_ZN8$BP$test4foobE", "*test::foob") ∷
    ("_ZN9$u20$test4foobE", " test::foob") ∷
    ("_ZN35Bar$LT$$u5b$u32$u3b$$u20$4$u5d$$GT$E", "Bar<[u32; 4]>") ∷
    ("ZN13test$u20$test4foobE", "test test::foob") ∷
    ("_ZN12test$BP$test4foobE", "test*test::foob") ∷
    ("_ZN13_$LT$test$GT$E", "<test>") ∷
    ("_ZN28_$u7b$$u7b$closure$u7d$$u7d$E", "{{closure}}") ∷
    ("_ZN15__STATIC_FMTSTRE", "__STATIC_FMTSTR") ∷
    ("_ZN71_$LT$Test$u20$$u2b$$u20$$u27$static$u20$as$u20$foo..Bar$LT$Test$GT$$GT$3barE", "<Test + 'static as foo::Bar<Test>>::bar") ∷
    ("_ZN17h05af221e174051e93fooE", "h05af221e174051e9::foo") ∷
    ("_ZN3foo16ffaf221e174051e9E", "foo::ffaf221e174051e9") ∷
    ("_ZN3foo17hg5af221e174051e9E", "foo::hg5af221e174051e9") ∷
    ("_ZN4$SP$E", "@") ∷
    ("_ZN5$u7f$E", "$u7f$") ∷
    ("_ZN5$u9f$E", "$u9f$") ∷
    ("_ZN4$LP$E", "(") ∷
    ("_ZN5$u4a$E", "J") ∷
    ("_ZN5$u4A$E", "$u4A$") ∷
    ("_ZN4a$u$E", "a$u$") ∷
    ("_ZN3_.aE", "_.a") ∷
    ("_ZN4_..aE", "_::a") ∷
    ("_ZN6__$C$aE", "__,a") ∷
    ("_ZN3foo3HabE", "foo::Hab") ∷
    []

same_text : (hash : Bool) → map (λ r. text hash (codes r.0)) same ≡ map (λ r. Some (codes r.1)) same
unfolding number inner_of element_of parts_within parts_of legacy_of escape_of_digits escape_of leading_unit pieces_from unescaped printed_elements encode_utf8
same_text true = refl
same_text false = refl

-- a symbol, its text with the hash, and without it
abbrev hashed : List (String × String × String)
hashed =
    ("_ZN3foo17h05af221e174051e9E", "foo::h05af221e174051e9", "foo") ∷
    ("_ZN1hE", "h", "") ∷
    ("_ZN3foo4headE", "foo::head", "foo") ∷
    ("__ZN5alloc9allocator6Layout9for_value17h02a996811f781011E", "alloc::allocator::Layout::for_value::h02a996811f781011", "alloc::allocator::Layout::for_value") ∷
    ("_ZN3foo20h05af221e174051e9abcE", "foo::h05af221e174051e9abc", "foo") ∷
    ("_ZN3foo2h9E", "foo::h9", "foo") ∷
    ("_ZN3foo17h05AF221E174051E9E", "foo::h05AF221E174051E9", "foo") ∷
    ("_ZN3foo3hABE", "foo::hAB", "foo") ∷
    []

with_hash : map (λ r. text true (codes r.0)) hashed ≡ map (λ r. Some (codes r.1)) hashed
unfolding number inner_of element_of parts_within parts_of legacy_of escape_of_digits escape_of leading_unit pieces_from unescaped printed_elements encode_utf8
with_hash = refl

without_hash : map (λ r. text false (codes r.0)) hashed ≡ map (λ r. Some (codes r.2)) hashed
unfolding number inner_of element_of parts_within parts_of legacy_of escape_of_digits escape_of leading_unit pieces_from unescaped printed_elements encode_utf8
without_hash = refl

-- a character past ASCII, by its bytes
past_ascii : (hash : Bool) → text hash (codes "_ZN5$ua0$E") ≡ Some (194 ∷ 160 ∷ [])
unfolding number inner_of element_of parts_within parts_of legacy_of escape_of_digits escape_of leading_unit pieces_from unescaped printed_elements encode_utf8
past_ascii true = refl
past_ascii false = refl

refused : map legacy_of (codes "_ZN2222222222222222222222EE" ∷ codes "" ∷ codes "_ZN" ∷ codes "test" ∷ codes "_ZN4test" ∷ codes "_ZNfooE" ∷ codes "_R_ZN3fooE" ∷ []) ≡
    None ∷ None ∷ None ∷ None ∷ None ∷ None ∷ None ∷ []
unfolding number inner_of element_of parts_within parts_of legacy_of
refused = refl
