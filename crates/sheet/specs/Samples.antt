-- The three whole samples of document 01, as the sentences of their sheets.
use Rattle.std.specs.Prelude.{Some, None, ◌≡◌, refl, true, false}
use Rattle.text.specs.Ascii.{ascii}
use Rattle.words.specs.Words.{dictionary, word, spaced, ones, below_hundred, below_thousand, group, number_codes, said}
use Rattle.words.specs.Duration.{counted, duration_codes, lasting}
use Rattle.codes.specs.declared.MessageType.TheVariants as message
use Rattle.codes.specs.declared.Status.TheVariants as status
use Rattle.codes.specs.declared.Scope.TheVariants as scope
use Rattle.codes.specs.declared.Urgency.TheVariants as urgency
use Rattle.codes.specs.declared.Severity.TheVariants as severity
use Rattle.codes.specs.declared.Certainty.TheVariants as certainty
use Rattle.codes.specs.Lists.{lists, small_text}
use Rattle.sheet.specs.Sheet.{Sheet, cap, warn}
use Rattle.sheet.specs.Sentence.{sentence, sentence_in, cap_text, parts_text, part_text, lasting_text, warn_text, flags_text, flag, origin_text, hazard_text}

abbrev pub kiln_alert : Sheet
kiln_alert =
    cap
    (record {
      message = message.Alert;
      status = status.Actual;
      scope = scope.Public;
      parts =
          Some (record {
            number = 1;
            total = 1;
            urgency = urgency.Immediate;
            severity = severity.Extreme;
            certainty = certainty.Observed;
            lasting = Some 900;
          });
    })
    (ascii "kiln.example")
    (ascii "A17")

abbrev pub kiln_cancel : Sheet
kiln_cancel =
    cap
    (record { message = message.Cancel; status = status.Actual; scope = scope.Public; parts = None })
    (ascii "kiln.example")
    (ascii "A18")

abbrev pub warn_cancel : Sheet
warn_cancel =
    warn
    (record {
      urgent = true;
      update = false;
      cancel = true;
      test = false;
      event = 7;
      number = 2;
      origin = 21;
      lasting = 3_900;
      hazard = 1;
      kind = 0;
      urgency = 3;
      severity = 2;
      certainty = 1;
      response = 0;
    })

pub sample_alert : sentence kiln_alert ≡ ascii "cap alert, actual, public, from kiln.example, name A17, part one of one, immediate, extreme, observed, lasts fifteen minutes.\n"
unfolding dictionary word spaced ones below_hundred below_thousand group number_codes said counted duration_codes lasting lists small_text sentence
    sentence_in cap_text parts_text part_text lasting_text
sample_alert = refl

pub sample_cancel : sentence kiln_cancel ≡ ascii "cap cancel, actual, public, from kiln.example, name A18, no parts.\n"
unfolding lists small_text sentence sentence_in cap_text parts_text
sample_cancel = refl

pub sample_warn : sentence warn_cancel ≡ ascii "warn alert urgent cancel, event seven, number two, origin twenty one, lasts one hour five minutes, hazard one, kind zero, urgency three, severity two, certainty one, response zero.\n"
unfolding dictionary word spaced ones below_hundred below_thousand group number_codes said counted duration_codes lasting sentence sentence_in warn_text
    flags_text flag origin_text hazard_text
sample_warn = refl
