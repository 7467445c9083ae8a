use Rattle.std.proofs.Common.{arith, refl}
use Rattle.demangle_v0_tokens.specs.declared.tags.VariantKind.TheVariants as kind
use Rattle.demangle_v0_parser.proofs.StepErrors.{stops, stops_invalid, stops_none}
use Rattle.demangle_v0_parser.proofs.VariantSteps.{variant_unread, variant_untagged, variant_wrong, variant_as, tuple_opens, fields_open}
use Rattle.demangle_v0_parser.proofs.parse.Parser.variant.Goals as goal

pub returns-in_err-at : goal.returns-in_err-at
returns-in_err-at c = λ p. record {
  does = rw (stops c.from_residual.result c.from_residual.ensures.1 c.in_err-at.ensures.failed.1)
      (variant_unread c.in_err-at.ensures.failed.0 c.requires.can_step.no_pending_text);
  same = (refl, refl, refl);
}

pub returns-in_err-tag : goal.returns-in_err-tag
returns-in_err-tag c = λ p. record {
  does = rw (stops_invalid c.from_residual-in_err-tag.result c.from_residual-in_err-tag.ensures.1
      c.in_err-tag.ensures.fault) (variant_untagged c.in_ok-at.at c.in_ok-at.ensures.ok c.in_err-tag.ensures.read
      c.tag.ensures.look c.requires.can_step.no_pending_text);
  same = (refl, refl, refl);
}

pub returns-in_err-kind : goal.returns-in_err-kind
returns-in_err-kind c = λ p. record {
  does = rw (stops_none c.from_residual-in_err-kind.result c.from_residual-in_err-kind.ensures.1
      c.in_err-kind.ensures.value c.in_err-kind.ensures.ok_part) (variant_wrong c.in_ok-at.at c.in_ok-tag.tag
      c.in_ok-tag.next c.in_ok-at.ensures.ok c.in_ok-tag.ensures.read
      (rw c.in_err-kind.ensures.ok_part at c.variant_kind.ensures) c.tag.ensures.look c.requires.can_step.no_pending_text);
  same = (refl, refl, refl);
}

pub returns-in-Unit : goal.returns-in-Unit
returns-in-Unit c = λ p. let d = c.unit_variant.ensures p in record {
  does = variant_as c.in_ok-at.at c.in_ok-tag.tag c.in_ok-tag.next kind.Unit c.in_ok-at.ensures.ok
      c.in_ok-tag.ensures.read (rw (c.in_ok-kind.ensures.ok_part, c.in-Unit.is) at c.variant_kind.ensures)
      c.tag.ensures.look (rw c.in_ok-at.ensures.ok
      (omega (arith, c.tag.ensures.look, c.in_ok-tag.ensures.within, d.does.own_looks))) d.does;
  same = d.same;
}

pub returns-in-Tuple : goal.returns-in-Tuple
returns-in-Tuple c = λ p. rw (c.open_fields.ensures.continuation, c.open_fields.ensures.parser) (record {
  does = variant_as c.in_ok-at.at c.in_ok-tag.tag c.in_ok-tag.next kind.Tuple c.in_ok-at.ensures.ok
      c.in_ok-tag.ensures.read (rw (c.in_ok-kind.ensures.ok_part, c.in-Tuple.is) at c.variant_kind.ensures)
      c.tag.ensures.look (rw c.in_ok-at.ensures.ok (omega (arith, c.tag.ensures.look)))
      (tuple_opens _ _ _ c.requires.can_step.fits (refl, refl));
  same = (refl, refl, refl);
})

pub returns-in-Fields : goal.returns-in-Fields
returns-in-Fields c = λ p. rw (c.open_fields-in-Fields.ensures.continuation, c.open_fields-in-Fields.ensures.parser) (record {
  does = variant_as c.in_ok-at.at c.in_ok-tag.tag c.in_ok-tag.next kind.Fields c.in_ok-at.ensures.ok
      c.in_ok-tag.ensures.read (rw (c.in_ok-kind.ensures.ok_part, c.in-Fields.is) at c.variant_kind.ensures)
      c.tag.ensures.look (rw c.in_ok-at.ensures.ok (omega (arith, c.tag.ensures.look)))
      (fields_open _ _ _ c.requires.can_step.fits (refl, refl));
  same = (refl, refl, refl);
})
