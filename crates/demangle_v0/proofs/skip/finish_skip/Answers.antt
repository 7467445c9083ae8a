use Rattle.std.proofs.Common.{ap, refl}
use Rattle.demangle_v0_parser.specs.Frames.{Stack}
use Rattle.demangle_v0.proofs.SkipSteps.{own_over, own_failed, own_full}
use Rattle.demangle_v0.proofs.skip.finish_skip.Goals as goal

pub returns-in-Complete-clause-finishes : goal.returns-in-Complete-clause-finishes
returns-in-Complete-clause-finishes c =
    rw (c.in-Skipping.is, c.continue_after.ensures) (λ below began r h.
    own_over c.in-Skipping.printing r (c.in-Complete.ensures.reads below r.frames r.is_stack h r.inner) refl refl)

pub returns-in-Failed-clause-finishes : goal.returns-in-Failed-clause-finishes
returns-in-Failed-clause-finishes c =
    rw (c.in-Skipping.is, c.continue_after-in-Failed.ensures) (λ below began r h.
    own_failed c.in-Skipping.printing r (c.in-Failed.ensures.reads below r.frames r.is_stack h r.inner) h (ap (λ (s : Stack). s.frames) c.truncate.ensures) refl refl)

pub returns-in-StackFull-clause-finishes : goal.returns-in-StackFull-clause-finishes
returns-in-StackFull-clause-finishes c =
    rw c.in-Skipping.is (
      refl,
      refl,
      c.in-StackFull.ensures.valid refl,
      c.in-StackFull.ensures.full refl,
      λ below began r h.
          own_full c.in-Skipping.printing r (c.in-StackFull.ensures.reads below r.frames r.is_stack h r.inner),
    )
