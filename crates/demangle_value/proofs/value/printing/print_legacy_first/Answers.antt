use Rattle.std.specs.Prelude.{IsAscii}
use Rattle.std.specs.List.{concat}
use Rattle.std.proofs.Common.{◌≡◌, ℕ, true, List, [], ◌∷◌, ◌++◌, Result, Ok, Err, is_ok, OnOk, Some, length, arith, refl, sym, subst, ap, ◌∙◌, inl, rules}
use Rattle.std.proofs.lemmas.Bool.{false≢true}
use Rattle.demangle_legacy.specs.Legacy.{legacy_of}
use Rattle.demangle_legacy.specs.Unescaped.{legacy_pieces}
use Rattle.demangle_legacy.proofs.LegacyLaws.{legacy_read}
use Rattle.demangle_sink.specs.Cut.{cut}
use Rattle.demangle_sink.specs.declared.SinkRefused.{SinkRefused}
use Rattle.demangle_sink.proofs.PutsPiecesLemmas.{puts_then, puts_text}
use Rattle.demangle_sink.proofs.PrintsLemmas.{prints_cut_all}
use Rattle.demangle_value.specs.Filtered.{replacement_in}
use Rattle.demangle_value.specs.Limits.{text_format}
use Rattle.demangle_value.specs.Stripped.{is_allowed, stripped}
use Rattle.demangle_value.specs.Symbols.{IsSymbol, form_in, limit_in}
use Rattle.demangle_value.specs.declared.format.Format.{Format}
use Rattle.demangle_value.specs.declared.format.TextFormat.{TextFormat}
use Rattle.demangle_value.proofs.RunStarts.{all_ascii}
use Rattle.demangle_value.proofs.RunLemmas.{symbol_replaced}
use Rattle.demangle_value.proofs.PrintingLaws.{handed-some_of}
use Rattle.demangle_value.proofs.Stripping.{IsAscii-stripped, stripped-shorter}
use Rattle.demangle_value.proofs.SymbolLemmas.{pieces-legacy}
use Rattle.demangle_value.proofs.value.printing.print_legacy_first.Goals as goal

-- the text that a legacy symbol prints replaces its run
legacy_replaced : (run text : List ℕ) (elements : List (List ℕ)) (suffix : List ℕ) (format : Format) → text ≡ stripped run → legacy_of text ≡ Some (elements, suffix) → is_allowed suffix ≡ true
    → concat (cut (legacy_pieces format.form elements) (limit_in format text) ++ suffix ∷ []) ≡ replacement_in format run
legacy_replaced run text elements suffix format same read allowed =
    let whole = handed-some_of text format (legacy_pieces format.form elements, suffix) (pieces-legacy (form_in format text) text elements suffix read allowed) in
    let is : IsSymbol text = inl (elements, suffix, legacy_read text elements suffix read, allowed) in
    sym (ap concat whole) ∙ symbol_replaced run text format same is

-- the same for the limits of the text
legacy_text : (run text : List ℕ) (elements : List (List ℕ)) (suffix : List ℕ) (format : Format) (limits : TextFormat) → limits ≡ text_format format (length text) → text ≡ stripped run → legacy_of text ≡ Some (elements, suffix) → is_allowed suffix ≡ true
    → concat (cut (legacy_pieces limits.form elements) limits.limit ++ suffix ∷ []) ≡ replacement_in format run
legacy_text run text elements suffix format limits so same read allowed =
    ap (λ (f : TextFormat). concat (cut (legacy_pieces f.form elements) f.limit ++ suffix ∷ [])) so ∙ legacy_replaced run text elements suffix format same read allowed

pub demangle_printed-read-requires-clause-ascii : goal.demangle_printed-read-requires-clause-ascii
demangle_printed-read-requires-clause-ascii g c = subst IsAscii (sym c.without_thin_lto-text.ensures) (IsAscii-stripped c.args.run.now (all_ascii c.args.run.now c.requires.run))

when_ok : {P : Type 0} (r : Result (Unit {0}) SinkRefused) → is_ok r ≡ true → OnOk r P → P
when_ok (Ok u) e p = p
when_ok (Err f) e p = absurd (false≢true e)

pub returns-then-is_ok-clause-took : goal.returns-then-is_ok-clause-took
returns-then-is_ok-clause-took g c = λ _.
    let laws = g.met.S.TextSink in
    let printed = c.demangle_printed-read.new.out in
    let suffix = c.in-Some.suffix.now in
    let put = c.put_piece.result in
    let prints = c.in-Some.ensures.prints in
    let both =
    puts_then g.S.TextSink c.args.out.now _ c.put_piece.new.out _ (suffix ∷ []) (Ok tt) put
    (prints_cut_all g.S.TextSink c.new-limited.result printed _ _ _ _ (Ok tt) c.new-limited.ensures.text c.new-limited.ensures.left prints (prints.open_ refl) (search rules))
    refl c.put_piece.ensures in
    let took = puts_text g.S.TextSink c.args.out.now c.put_piece.new.out _ put laws.took_nothing laws.took_joined both in
    let allowed : is_allowed suffix ≡ true = sym c.is_allowed.ensures.allowed ∙ c.if-is_allowed.true in
    let text = legacy_text c.args.run.now c.without_thin_lto-text.result.now _ suffix c.args.format c.for_text-limits.result c.for_text-limits.ensures c.without_thin_lto-text.ensures c.in-Some.ensures.some allowed in
    subst (λ t. g.S.TextSink.took c.args.out.now t c.put_piece.new.out) text (when_ok put (sym c.is_ok.ensures.value ∙ c.if-is_ok.true) took)

pub returns-in_default-clause-most : goal.returns-in_default-clause-most
returns-in_default-clause-most g c =
    omega (arith, c.in_default.ensures.most, ap length c.without_thin_lto-text.ensures, stripped-shorter c.args.run.now)

pub returns-else-is_allowed-clause-most : goal.returns-else-is_allowed-clause-most
returns-else-is_allowed-clause-most g c =
    omega (arith, c.in-Some.ensures.most, c.in-Some.ensures.suffix, c.is_allowed.ensures.most, ap length c.without_thin_lto-text.ensures, stripped-shorter c.args.run.now)

pub returns-then-is_ok-clause-most : goal.returns-then-is_ok-clause-most
returns-then-is_ok-clause-most g c =
    omega (arith, c.in-Some.ensures.most, c.in-Some.ensures.suffix, c.is_allowed.ensures.most, ap length c.without_thin_lto-text.ensures, stripped-shorter c.args.run.now)
