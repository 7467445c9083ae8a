use Rattle.std.specs.Prelude.{IsAscii}
use Rattle.std.specs.List.{concat}
use Rattle.std.proofs.Common.{◌≡◌, ◌≤◌, ℕ, ◌+◌, Bool, true, List, [], ◌∷◌, ◌++◌, Result, Ok, Err, is_ok, OnOk, Some, length, arith, refl, sym, subst, ap, ◌∙◌, inr, rules}
use Rattle.std.proofs.lemmas.Bool.{false≢true}
use Rattle.demangle_legacy.specs.Legacy.{legacy_of}
use Rattle.demangle_value.specs.Shape.{is_all, limited, path_pieces, texts_within}
use Rattle.demangle_v0_grammar.specs.V0.{v0_of}
use Rattle.demangle_v0_grammar.proofs.V0Reading.{read_is_v0}
use Rattle.demangle_sink.specs.Cut.{cut, size}
use Rattle.demangle_sink.specs.declared.SinkRefused.{SinkRefused}
use Rattle.demangle_sink.specs.Limit.{PrintsUpTo, unused}
use Rattle.demangle_sink.proofs.PutsPiecesLemmas.{puts_then, puts_text}
use Rattle.demangle_sink.proofs.PrintsLemmas.{cut-within, cut_all}
use Rattle.demangle_value.specs.Filtered.{replacement_in}
use Rattle.demangle_value.specs.Stripped.{is_allowed, stripped}
use Rattle.demangle_value.specs.Symbols.{IsSymbol, form_in, limit_in}
use Rattle.demangle_value.specs.declared.format.Format.{Format}
use Rattle.demangle_value.specs.declared.format.TextFormat.{TextFormat}
use Rattle.demangle_value.proofs.RunStarts.{all_ascii}
use Rattle.demangle_value.proofs.RunLemmas.{symbol_replaced}
use Rattle.demangle_value.proofs.PrintingLaws.{handed-some_of}
use Rattle.demangle_value.proofs.Stripping.{IsAscii-stripped, stripped-shorter}
use Rattle.demangle_value.proofs.SymbolLemmas.{no_pieces, pieces-v0}
use Rattle.demangle_value.proofs.V0Runs.{not_legacy, v0_run_long}
use Rattle.demangle_value.proofs.AllReferences.{same_pieces, up_to, up_to_all}
use Rattle.demangle_value.proofs.value.printing.print_v0_first.Goals as goal

-- pieces within the lower limit are cut at neither
same_cut : (xs : List (List ℕ)) (most limit : ℕ) → size xs ≤ most → most ≤ limit → cut xs most ≡ cut xs limit
same_cut xs most limit within lower = cut-within xs most within ∙ sym (cut-within xs limit (omega (arith, within, lower)))

-- the text that a v0 symbol prints replaces its run
v0_replaced : (run text inner suffix : List ℕ) (format : Format) → text ≡ stripped run → v0_of text ≡ Some (inner, suffix) → is_allowed suffix ≡ true
    → concat (cut (path_pieces inner (form_in format text)) (limit_in format text) ++ suffix ∷ []) ≡ replacement_in format run
v0_replaced run text inner suffix format same read allowed =
    let whole = handed-some_of text format (path_pieces inner (form_in format text), suffix) (pieces-v0 (form_in format text) text inner suffix read allowed) in
    let is : IsSymbol text = inr (inner, suffix, read_is_v0 text inner suffix read, allowed) in
    sym (ap concat whole) ∙ symbol_replaced run text format same is

pub print_first-printed-requires-clause-ascii : goal.print_first-printed-requires-clause-ascii
print_first-printed-requires-clause-ascii g c = subst IsAscii (sym c.without_thin_lto-text.ensures) (IsAscii-stripped c.args.run.now (all_ascii c.args.run.now c.requires.run))

when_ok : {P : Type 0} (r : Result (Unit {0}) SinkRefused) → is_ok r ≡ true → OnOk r P → P
when_ok (Ok u) e p = p
when_ok (Err f) e p = absurd (false≢true e)

pub returns-then-is_ok-clause-took : goal.returns-then-is_ok-clause-took
returns-then-is_ok-clause-took g c = λ _.
    let laws = g.met.S.TextSink in
    let printed = c.print_first-printed.new.out in
    let inner = c.in-Symbol.symbol in
    let suffix = c.in-Symbol.suffix.now in
    let put = c.put_piece.result in
    let form = limited c.for_text-limits.result in
    let most = c.first_format-first.ensures.reread in
    let first = record form { reread = Some most.0 } in
    let known = rw (c.in-Symbol.is, c.first_format-first.ensures.form) at c.print_first-printed.ensures.known in
    let out = c.with_reread-limited.result in
    let texts = texts_within inner first in
    let up = up_to g.S.TextSink out printed inner first (Ok tt) (c.with_reread-limited.ensures.reread ∙ ap unused most.1) known.1 in
    let all : is_all inner first ≡ true = up_to_all g.S.TextSink out printed texts (is_all inner first) up in
    let prints = subst (λ (b : Bool). PrintsUpTo g.S.TextSink out texts b (Ok tt) printed) all up in
    let both =
    puts_then g.S.TextSink c.args.out.now _ c.put_piece.new.out _ (suffix ∷ []) (Ok tt) put
    (cut_all g.S.TextSink out printed _ _ _ texts true (Ok tt) c.with_reread-limited.ensures.text c.with_reread-limited.ensures.left prints (prints.open_ refl) (search rules))
    refl c.put_piece.ensures in
    let took = puts_text g.S.TextSink c.args.out.now c.put_piece.new.out _ put laws.took_nothing laws.took_joined both in
    let within : size texts ≤ c.first_format-first.result.limit = omega (arith, prints.within refl, c.with_reread-limited.ensures.left) in
    let whole_texts : texts ≡ path_pieces inner form = same_pieces most.0 inner form most.3 all in
    let cut_so =
    same_cut texts c.first_format-first.result.limit c.for_text-limits.result.limit within c.first_format-first.ensures.limit
    ∙ (ap (λ (xs : List (List ℕ)). cut xs c.for_text-limits.result.limit) whole_texts
    ∙ ap (λ (f : TextFormat). cut (path_pieces inner (limited f)) f.limit) c.for_text-limits.ensures) in
    let allowed = sym c.is_allowed-allowed.ensures.allowed ∙ c.if-allowed.true in
    let whole = v0_replaced c.args.run.now c.without_thin_lto-text.result.now inner suffix c.args.format c.without_thin_lto-text.ensures known.0 allowed in
    let text = ap (λ (pieces : List (List ℕ)). concat (pieces ++ suffix ∷ [])) cut_so ∙ whole in
    subst (λ t. g.S.TextSink.took c.args.out.now t c.put_piece.new.out) text (when_ok put (sym c.is_ok.ensures.value ∙ c.if-is_ok.true) took)

pub without_style-requires : goal.without_style-requires
without_style-requires g c = λ form.
    no_pieces form c.without_thin_lto-text.result.now (ap legacy_of c.without_thin_lto-text.ensures ∙ not_legacy c.args.run.now c.requires.v0) (rw c.in-NoSymbol.is at c.print_first-printed.ensures.known)

pub returns-in-NoSymbol-clause-most : goal.returns-in-NoSymbol-clause-most
returns-in-NoSymbol-clause-most g c =
    let most = c.first_format-first.ensures.reread in
    omega (arith, rw (c.with_reread-limited.ensures.reread ∙ ap unused most.1) at c.print_first-printed.ensures.most, most.2, ap length c.without_thin_lto-text.ensures, stripped-shorter c.args.run.now)

pub returns-in-Unknown-clause-most : goal.returns-in-Unknown-clause-most
returns-in-Unknown-clause-most g c =
    let most = c.first_format-first.ensures.reread in
    omega (arith, rw (c.with_reread-limited.ensures.reread ∙ ap unused most.1) at c.print_first-printed.ensures.most, most.2, ap length c.without_thin_lto-text.ensures, stripped-shorter c.args.run.now)

pub returns-in-Unknown-clause-early : goal.returns-in-Unknown-clause-early
returns-in-Unknown-clause-early g c = λ _.
    let most = c.first_format-first.ensures.reread in
    let early = rw (c.with_reread-limited.ensures.reread ∙ ap unused most.1) at c.print_first-printed.ensures.early in
    omega (arith, early c.in-Unknown.is, most.2, ap length c.without_thin_lto-text.ensures, stripped-shorter c.args.run.now, v0_run_long c.args.run.now c.requires.v0)

pub returns-then-is_ok-clause-most : goal.returns-then-is_ok-clause-most
returns-then-is_ok-clause-most g c =
    let most = c.first_format-first.ensures.reread in
    omega (arith, rw (c.with_reread-limited.ensures.reread ∙ ap unused most.1) at c.print_first-printed.ensures.most, most.2, (rw c.in-Symbol.is at c.print_first-printed.ensures.inner).1, c.is_allowed-allowed.ensures.most, ap length c.without_thin_lto-text.ensures, stripped-shorter c.args.run.now)

pub returns-else-allowed-clause-most : goal.returns-else-allowed-clause-most
returns-else-allowed-clause-most g c =
    let most = c.first_format-first.ensures.reread in
    omega (arith, rw (c.with_reread-limited.ensures.reread ∙ ap unused most.1) at c.print_first-printed.ensures.most, most.2, (rw c.in-Symbol.is at c.print_first-printed.ensures.inner).1, c.is_allowed-allowed.ensures.most, ap length c.without_thin_lto-text.ensures, stripped-shorter c.args.run.now)
