use Rattle.std.proofs.Common.{arith, refl, sym, ◌∙◌, ◌≡◌, ◌≢◌, true}
use Rattle.demangle_v0_grammar.specs.Reading.{parse}
use Rattle.demangle_v0_parser.specs.Traces.{trace_at}
use Rattle.demangle_v0_parser.proofs.StepErrors.{stops}
use Rattle.demangle_v0_parser.proofs.Parsers.{advanced_rest}
use Rattle.demangle_v0_tokens.specs.declared.tags.TypeKind.TheVariants as kind
use Rattle.demangle_v0_parser.proofs.StepCases.{after_error}
use Rattle.std.proofs.lemmas.Bool.{false≢true}
use Rattle.demangle_v0_parser.proofs.TypeSteps.{splat_missing, splat_not, splat_there, basic_no_splat, kind_no_splat, shared_kind, type_splats, type_tagged, type_either, no_tag, basic_ends, tag_deep, path_follows, tag_continues}
use Rattle.demangle_v0_parser.proofs.parse.Parser.type_.Goals as goal
use Rattle.demangle_v0_parser.proofs.parse.Parser.type_.Goals.{else-may_have_splat-via-then-may_have_splat+else-tag-eq119, else-may_have_splat-via-else-may_have_splat}

pub returns-in_default : goal.returns-in_default
unfolding parse trace_at
returns-in_default g c =
    let is = c.in_default.is in
    record {
      does = type_either c.args.may_have_splat (λ _. after_error c.requires.can_step.no_pending_text (rw is refl) (omega arith)) (λ _. after_error c.requires.can_step.no_pending_text (rw is refl) (omega arith));
      same = (refl, refl, refl);
    }

pub returns-in_default-byte : goal.returns-in_default-byte
returns-in_default-byte g c = record {
  does = type_tagged c.args.may_have_splat c.in-Some.at c.in-Some.is
      (λ _. splat_missing c.args.self.now.source.symbol.now c.in-Some.at c.in_default-byte.ensures.byte)
      (no_tag c.in-Some.at c.in-Some.is c.in_default-byte.ensures.byte c.byte.ensures.look c.requires.can_step.no_pending_text);
  same = (refl, refl, refl);
}

pub returns-in-Some-basic_type_text : goal.returns-in-Some-basic_type_text
returns-in-Some-basic_type_text g c =
    let x = c.in-Some-byte.tag in
    let m = c.in-Some-basic_type_text.pending_text in
    rw (c.end_with.ensures.end, c.end_with.ensures.with_text) (record {
      does = type_tagged c.args.may_have_splat c.in-Some.at c.in-Some.is
          (λ _. splat_not c.args.self.now.source.symbol.now c.in-Some.at x c.in-Some-byte.ensures.byte (basic_no_splat x m c.in-Some-basic_type_text.ensures))
          (basic_ends c.in-Some.at x m c.in-Some.is c.in-Some-byte.ensures.byte c.in-Some-basic_type_text.ensures c.byte.ensures.look);
      same = (refl, refl, refl);
    })

pub returns-in_err-enter : goal.returns-in_err-enter
returns-in_err-enter g c =
    let deep = c.in_err-enter.ensures.deep in
    let x = c.in-Some-byte.tag in
    rw deep.2 (record {
      does = rw (stops c.from_residual.result c.from_residual.ensures.1 deep.1) (type_tagged c.args.may_have_splat c.in-Some.at c.in-Some.is
          (λ _. splat_not c.args.self.now.source.symbol.now c.in-Some.at x c.in-Some-byte.ensures.byte (kind_no_splat x kind.SharedReference (shared_kind x c.if-tag-eq82.true)))
          (tag_deep c.in-Some.at x c.in-Some.is c.in-Some-byte.ensures.byte c.in_default-basic_type_text.ensures deep.0 c.byte.ensures.look c.requires.can_step.no_pending_text));
      same = (refl, refl, refl);
    })

pub returns-then-tag-eq82 : goal.returns-then-tag-eq82
returns-then-tag-eq82 g c =
    let ok = c.in_ok-enter.ensures.ok in
    let d = rw ok.1 at (advanced_rest g.V.Output c.args.output.now _ 5 50 9 c.reference_type.ensures) in
    let x = c.in-Some-byte.tag in
    record {
      does = type_tagged c.args.may_have_splat c.in-Some.at c.in-Some.is
          (λ _. splat_not c.args.self.now.source.symbol.now c.in-Some.at x c.in-Some-byte.ensures.byte (kind_no_splat x kind.SharedReference (shared_kind x c.if-tag-eq82.true)))
          (tag_continues c.in-Some.at x kind.SharedReference c.in-Some.is c.in-Some-byte.ensures.byte c.in_default-basic_type_text.ensures ok.0 (shared_kind x c.if-tag-eq82.true) c.byte.ensures.look (rw c.in-Some.is (omega (arith, c.byte.ensures.look, c.in-Some-byte.ensures.within, d.does.own_looks))) d.does);
      same = d.same;
    }

pub returns-then-tag-eq119 : goal.returns-then-tag-eq119
returns-then-tag-eq119 g c = rw c.put.ensures (record {
  does = type_either c.args.may_have_splat
      (λ _. type_splats c.in-Some.at c.in-Some.is
      (splat_there c.args.self.now.source.symbol.now c.in-Some.at c.in-Some-byte.tag c.in-Some-byte.ensures.byte c.if-tag-eq119.true)
      (record { grows = omega (arith, c.byte.ensures.look); within = omega (arith, c.byte.ensures.look) }) c.requires.can_step.fits)
      (λ e. absurd (false≢true (sym e ∙ c.if-may_have_splat.true)));
  same = (refl, refl, refl);
})

pub returns-in_err-enter-2 : goal.returns-in_err-enter-2
returns-in_err-enter-2 g c =
    let deep = c.in_err-enter-2.ensures.deep in
    let x = c.in-Some-byte.tag in
    let plain : c.args.may_have_splat ≡ true → x ≢ 119 = λ e. elim c.else-may_have_splat.branch [
      | else-may_have_splat-via-then-may_have_splat+else-tag-eq119 w ↦ w.if-tag-eq119.false
      | else-may_have_splat-via-else-may_have_splat w ↦ absurd (false≢true (sym w.if-may_have_splat.false ∙ e))
    ] in
    rw deep.2 (record {
      does = rw (stops c.from_residual-in_err-enter-2.result c.from_residual-in_err-enter-2.ensures.1 deep.1) (type_tagged c.args.may_have_splat c.in-Some.at c.in-Some.is
          (λ e. splat_not c.args.self.now.source.symbol.now c.in-Some.at x c.in-Some-byte.ensures.byte (plain e))
          (tag_deep c.in-Some.at x c.in-Some.is c.in-Some-byte.ensures.byte c.in_default-basic_type_text.ensures deep.0 c.byte.ensures.look c.requires.can_step.no_pending_text));
      same = (refl, refl, refl);
    })

pub returns-in_default-type_kind : goal.returns-in_default-type_kind
returns-in_default-type_kind g c =
    let ok = c.in_ok-enter-2.ensures.ok in
    let x = c.in-Some-byte.tag in
    let plain : c.args.may_have_splat ≡ true → x ≢ 119 = λ e. elim c.else-may_have_splat.branch [
      | else-may_have_splat-via-then-may_have_splat+else-tag-eq119 w ↦ w.if-tag-eq119.false
      | else-may_have_splat-via-else-may_have_splat w ↦ absurd (false≢true (sym w.if-may_have_splat.false ∙ e))
    ] in
    rw ok.1 (record {
      does = type_tagged c.args.may_have_splat c.in-Some.at c.in-Some.is
          (λ e. splat_not c.args.self.now.source.symbol.now c.in-Some.at x c.in-Some-byte.ensures.byte (plain e))
          (path_follows c.in-Some.at x c.in-Some.is c.in-Some-byte.ensures.byte c.in_default-basic_type_text.ensures ok.0 c.in_default-type_kind.ensures c.byte.ensures.look c.requires.can_step.no_pending_text c.requires.can_step.fits);
      same = (refl, refl, refl);
    })

pub returns-in_err-enter-3 : goal.returns-in_err-enter-3
returns-in_err-enter-3 g c =
    let deep = c.in_err-enter-3.ensures.deep in
    let x = c.in-Some-byte.tag in
    rw deep.2 (record {
      does = rw (stops c.from_residual-in_err-enter-3.result c.from_residual-in_err-enter-3.ensures.1 deep.1) (type_tagged c.args.may_have_splat c.in-Some.at c.in-Some.is
          (λ _. splat_not c.args.self.now.source.symbol.now c.in-Some.at x c.in-Some-byte.ensures.byte (kind_no_splat x c.in-Some-type_kind.kind c.in-Some-type_kind.ensures))
          (tag_deep c.in-Some.at x c.in-Some.is c.in-Some-byte.ensures.byte c.in_default-basic_type_text.ensures deep.0 c.byte.ensures.look c.requires.can_step.no_pending_text));
      same = (refl, refl, refl);
    })

pub returns : goal.returns
returns g c =
    let ok = c.in_ok-enter-3.ensures.ok in
    let d = rw ok.1 at c.type_after_tag.ensures in
    let x = c.in-Some-byte.tag in
    record {
      does = type_tagged c.args.may_have_splat c.in-Some.at c.in-Some.is
          (λ _. splat_not c.args.self.now.source.symbol.now c.in-Some.at x c.in-Some-byte.ensures.byte (kind_no_splat x c.in-Some-type_kind.kind c.in-Some-type_kind.ensures))
          (tag_continues c.in-Some.at x c.in-Some-type_kind.kind c.in-Some.is c.in-Some-byte.ensures.byte c.in_default-basic_type_text.ensures ok.0 c.in-Some-type_kind.ensures c.byte.ensures.look (rw c.in-Some.is (omega (arith, c.byte.ensures.look, c.in-Some-byte.ensures.within, d.does.own_looks))) d.does);
      same = d.same;
    }
