-- Each fact is read where the definition reads it: rewritten from the last to the first, since each stands after the one before.
use Rattle.sheet.specs.Reading.{numbers_after, rest_after_all, from_update, from_cancel, from_test, after_flags, from_period, from_hazard, warn_of}
use Rattle.reader.proofs.warn.warn_of.Goals as goal

pub returns : goal.returns
unfolding warn_of numbers_after rest_after_all from_update from_cancel from_test after_flags from_period from_hazard
returns c = rw (
  c.byte_after-response.ensures.0,
  c.byte_after-certainty.ensures.1,
  c.byte_after-certainty.ensures.0,
  c.byte_after-severity.ensures.1,
  c.byte_after-severity.ensures.0,
  c.byte_after-urgency.ensures.1,
  c.byte_after-urgency.ensures.0,
  c.byte_after-kind.ensures.1,
  c.byte_after-kind.ensures.0,
  c.byte_after-hazard.ensures.1,
  c.byte_after-hazard.ensures.0,
  c.skip-t.ensures,
  c.read_duration-lasting.ensures,
  c.after-t.ensures,
  c.number_after-origin.ensures.1,
  c.number_after-origin.ensures.0,
  c.number_after-number.ensures.1,
  c.number_after-number.ensures.0,
  c.number_after-event.ensures.1,
  c.number_after-event.ensures.0,
  c.flag-test.ensures.1,
  c.flag-test.ensures.0,
  c.flag-cancel.ensures.1,
  c.flag-cancel.ensures.0,
  c.flag-update.ensures.1,
  c.flag-update.ensures.0,
  c.flag-urgent.ensures.1,
  c.flag-urgent.ensures.0,
  c.after.ensures,
)
