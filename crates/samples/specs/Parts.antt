-- Worked samples: whole documents, their sheets with the sentences that say them, and places inside and outside their parts, with the reasons.
use Rattle.std.specs.Prelude.{Some, ◌≡◌, refl, List, [], ◌++◌, ℕ, ◌*◌, pos}
use Rattle.text.specs.Ascii.{ascii}
use Rattle.text.specs.Bytes.{number_from}
use Rattle.text.specs.Tokens.{on_token, longer, tokens}
use Rattle.text.specs.Parts.{starts_with}
use Rattle.text.specs.Answers.{Answer, gives, refuses, giving}
use Rattle.xml_tags.specs.Tags as tags
use Rattle.xml_tags.specs.Attributes as attribute
use Rattle.xml.specs.Comments as comments
use Rattle.xml.specs.Texts as texts
use Rattle.xml.specs.Opening as opening
use Rattle.schema.specs.Classes as class
use Rattle.schema.specs.Sequences.{container_of, next_of}
use Rattle.time.specs.Calendar.{days_of_years, days_of_months}
use Rattle.time.specs.Time.{has_form, stamp_of, is_stamp, local_seconds, epoch, offset, instant_of, stamp_time, time_of}
use Rattle.words.specs.Words.{dictionary, word, spaced, ones, below_hundred, below_thousand, group, number_codes, said}
use Rattle.words.specs.Duration.{counted, duration_codes, lasting}
use Rattle.codes.specs.declared.MessageType.TheVariants as message
use Rattle.codes.specs.declared.Status.TheVariants as status
use Rattle.codes.specs.declared.Scope.TheVariants as scope
use Rattle.codes.specs.declared.Urgency.TheVariants as urgency
use Rattle.codes.specs.declared.Severity.TheVariants as severity
use Rattle.codes.specs.declared.Certainty.TheVariants as certainty
use Rattle.sheet.specs.Sheet.{all_name_bytes}
use Rattle.sheet.specs.Sentence.{sentence, sentence_in, cap_text, parts_text, part_text, lasting_text}
use Rattle.sheet.specs.declared.Found.{Found}
use Rattle.sheet.specs.declared.Found.TheVariants.{Cap}
use Rattle.sheet.specs.Reading.{sheet_in}
use Rattle.coordinates.specs.declared.Place.{Place}
use Rattle.coordinates.specs.Decimal.{leads, places, fraction, decimal_length, is_decimal, scaled, radius_of}
use Rattle.coordinates.specs.Place.{coordinate_at, degrees_of, pair_of}
use Rattle.polygon.specs.Polygon.{polygon_of, places_of, last_of, is_closed, east_of, north_of, on_edge, crosses, on_ring, crossings, in_ring, polygon_holds}
use Rattle.circle.specs.Cosine.{cosines}
use Rattle.circle.specs.Circle.{circle_tokens, circle_of, shorter_way, in_circle, around_holds, circle_holds}
use Rattle.codes.specs.Lists.{lists, code_of, small_text}
use Rattle.rules.specs.Texts.{name_rule, code_rule, time_rule, polygon_rule, circle_rule, text_rule}
use Rattle.document.specs.Elements.{starts, fold}
use Rattle.document.specs.Tags.{open_step, empty_step, bound_step, local_name, is_alert, start_step, close_step, ended_step, tag_step}
use Rattle.document.specs.Constructs.{construct_step, step_of}
use Rattle.document.specs.Documents.{first_step, run, document_of}
use Rattle.parts.specs.declared.ShapeKind.{ShapeKind}
use Rattle.parts.specs.declared.ShapeKind.TheVariants as kind
use Rattle.parts.specs.Elements.{within, look_up}
use Rattle.parts.specs.Sheets.{lasts_of, cap_sheet}
use Rattle.parts.specs.Areas.{up_to_end, texts_of, areas_of, shapes_of}
use Rattle.parts.specs.Places.{inside, outside, no_shape, any_text, cap_place}
use Rattle.parts.specs.Reasons.{first_of_kind, first_from, Reason, held, tried, shapeless, cap_why}

-- ---- documents

-- an alert's start and what it holds up to its first info
abbrev pub head : (name sent message : List ℕ) → List ℕ
head name sent message =
    ascii "<alert xmlns=\"urn:oasis:names:tc:emergency:cap:1.2\">"
    ++ ascii "<identifier>" ++ name ++ ascii "</identifier><sender>kiln.example</sender><sent>" ++ sent ++ ascii "</sent>"
    ++ ascii "<status>Actual</status><msgType>" ++ message ++ ascii "</msgType><scope>Public</scope>"

-- an info with its times and areas
abbrev pub info : (times areas : List ℕ) → List ℕ
info times areas =
    ascii "<info><category>Met</category><event>Storm</event><urgency>Immediate</urgency>"
    ++ ascii "<severity>Extreme</severity><certainty>Observed</certainty>" ++ times ++ areas ++ ascii "</info>"

abbrev pub end : List ℕ
end = ascii "</alert>"

-- one part, from when it was sent
abbrev pub until : (expires : List ℕ) → List ℕ
until expires =
    head (ascii "A17") (ascii "2026-03-01T10:00:00-00:00") (ascii "Alert") ++ info (ascii "<expires>" ++ expires ++ ascii "</expires>") [] ++ end

-- to an hour and a quarter later on a clock that is an hour ahead; to the same instant
abbrev pub alert : List ℕ
alert = until (ascii "2026-03-01T11:15:00+01:00")

abbrev pub expired : List ℕ
expired = until (ascii "2026-03-01T11:00:00+01:00")

-- from the time that it is effective, which is not that of sending
abbrev pub delayed : List ℕ
delayed =
    head (ascii "A17") (ascii "2026-02-28T08:30:00-00:00") (ascii "Alert")
    ++ info (ascii "<effective>2026-03-01T10:00:00-00:00</effective><expires>2026-03-01T11:15:00+01:00</expires>") [] ++ end

-- no part
abbrev pub cancel : List ℕ
cancel = head (ascii "A18") (ascii "2026-03-01T10:20:00-00:00") (ascii "Cancel") ++ end

-- two parts, the first with an area, the second with no time
abbrev pub double : List ℕ
double =
    head (ascii "A19") (ascii "2026-03-01T10:00:00-00:00") (ascii "Update")
    ++ info (ascii "<expires>2026-03-02T10:00:00-00:00</expires>")
    (ascii "<area><areaDesc/><polygon>0,0 0,10 10,10 10,0 0,0</polygon><circle>20,20 1</circle></area>")
    ++ info [] [] ++ end

-- three areas: one without shapes, one whose first circle lies in both its polygons, and one with a corner at the other circle's centre
abbrev pub areas : List ℕ
areas =
    head (ascii "A20") (ascii "2026-03-01T10:00:00-00:00") (ascii "Alert")
    ++ info []
    (ascii "<area><areaDesc/></area><area><areaDesc/><polygon>0,0 0,10 10,10 10,0 0,0</polygon><polygon>0,0 0,20 20,20 20,0 0,0</polygon>"
    ++ ascii "<circle>5,5 1</circle><circle>30,30 1</circle></area><area><areaDesc/><polygon>30,30 30,40 40,40 40,30 30,30</polygon></area>")
    ++ end

-- the sheet of such a part, with the offsets of sender and name
abbrev pub kiln : (seconds : ℕ) → Found
kiln seconds =
    Cap
    (record {
      message = message.Alert;
      status = status.Actual;
      scope = scope.Public;
      parts =
          Some (record {
            number = 1;
            total = 1;
            urgency = urgency.Immediate;
            severity = severity.Extreme;
            certainty = certainty.Observed;
            lasting = Some seconds;
          });
    })
    (record { start = 88; len = 12 })
    (record { start = 64; len = 3 })

-- the sentence of a part's sheet
abbrev pub said_of : List ℕ → ℕ → Answer (List ℕ)
said_of l n = giving (λ x. sentence (sheet_in l x)) (cap_sheet n l)

abbrev pub degrees : ℕ → ℕ → Place
degrees y x = record { lat = pos (y * 10_000_000); lon = pos (x * 10_000_000) }

abbrev pub held_by : (area : ℕ) → ShapeKind → (position : ℕ) → Answer Reason
held_by a k i = gives (held (record { area = a; kind = k; position = i }))

-- ---- the samples

pub record Samples : Type 0 where
  -- the first sample of 01: fifteen minutes, from when it was sent or from when it is effective
  pub sample_alert :
      (cap_sheet 1 alert ≡ gives (kiln 900))
      × (cap_sheet 1 delayed ≡ gives (kiln 900))
      × (said_of alert 1 ≡ gives (ascii "cap alert, actual, public, from kiln.example, name A17, part one of one, immediate, extreme, observed, lasts fifteen minutes.\n"))
  -- "31,536,000 s: three hundred sixty five days; 31,536,001: refusal 7"
  pub sample_year :
      (cap_sheet 1 (until (ascii "2027-03-01T10:00:00-00:00")) ≡ gives (kiln 31_536_000))
      × (cap_sheet 1 (until (ascii "2027-03-01T10:00:01-00:00")) ≡ refuses 7 0)
  -- a part that ends at T24:00:00, and one a second later (request [6])
  pub sample_day_end :
      (said_of (until (ascii "2026-03-01T24:00:00-00:00")) 1
      ≡ gives (ascii "cap alert, actual, public, from kiln.example, name A17, part one of one, immediate, extreme, observed, lasts fourteen hours.\n"))
      × (cap_sheet 1 (until (ascii "2026-03-01T24:00:01-00:00")) ≡ refuses 18 361)
  -- the second: no parts
  pub sample_cancel : said_of cancel 0 ≡ gives (ascii "cap cancel, actual, public, from kiln.example, name A18, no parts.\n")
  -- the parts of two, the second without a time
  pub sample_double :
      (said_of double 1 ≡ gives (ascii "cap update, actual, public, from kiln.example, name A19, part one of two, immediate, extreme, observed, lasts one day.\n"))
      × (said_of double 2 ≡ gives (ascii "cap update, actual, public, from kiln.example, name A19, part two of two, immediate, extreme, observed, lasts no stated time.\n"))
  -- a part that isn't there: after the last, 0 where there are parts, 1 where there are none; a part that lasts no second; no document
  pub sample_refusals :
      (cap_sheet 2 alert ≡ refuses 21 0)
      × (cap_sheet 0 alert ≡ refuses 21 0)
      × (cap_sheet 1 cancel ≡ refuses 21 0)
      × (cap_sheet 2 expired ≡ refuses 21 0)
      × (cap_sheet 1 expired ≡ refuses 7 0)
      × (cap_sheet 1 (ascii "<html>") ≡ refuses 16 0)
  -- in the polygon, at the circle's centre, in neither; no shape in a part, none in part 0; no such place, no such part; no document
  pub sample_places :
      (cap_place 1 (degrees 5 5) double ≡ gives inside)
      × (cap_place 1 (degrees 20 20) double ≡ gives inside)
      × (cap_place 1 (degrees 15 15) double ≡ gives outside)
      × (cap_place 2 (degrees 5 5) double ≡ gives no_shape)
      × (cap_place 0 (degrees 5 5) cancel ≡ gives no_shape)
      × (cap_place 1 (degrees 91 5) double ≡ refuses 6 0)
      × (cap_place 3 (degrees 91 5) double ≡ refuses 21 0)
      × (cap_place 1 (degrees 91 5) (ascii "<html>") ≡ refuses 16 0)
  -- why, for the same places (request [5])
  pub sample_reasons :
      (cap_why 1 (degrees 5 5) double ≡ held_by 1 kind.Polygon 1)
      × (cap_why 1 (degrees 20 20) double ≡ held_by 1 kind.Circle 1)
      × (cap_why 1 (degrees 15 15) double ≡ gives (tried 2))
      × (cap_why 2 (degrees 5 5) double ≡ gives shapeless)
      × (cap_why 0 (degrees 5 5) cancel ≡ gives shapeless)
      × (cap_why 1 (degrees 91 5) double ≡ refuses 6 0)
      × (cap_why 3 (degrees 91 5) double ≡ refuses 21 0)
      × (cap_why 1 (degrees 91 5) (ascii "<html>") ≡ refuses 16 0)
  -- in both polygons and a circle; on the second polygon's edge; in a circle and at the corner of a later area's polygon; in that polygon; in none
  pub sample_areas :
      (cap_why 1 (degrees 5 5) areas ≡ held_by 2 kind.Polygon 1)
      × (cap_why 1 (degrees 20 5) areas ≡ held_by 2 kind.Polygon 2)
      × (cap_why 1 (degrees 30 30) areas ≡ held_by 2 kind.Circle 2)
      × (cap_why 1 (degrees 35 35) areas ≡ held_by 3 kind.Polygon 1)
      × (cap_why 1 (degrees 25 25) areas ≡ gives (tried 5))

pub samples : Samples
unfolding cap_sheet sheet_in lasts_of look_up within fold starts document_of first_step run step_of construct_step tag_step ended_step start_step is_alert local_name
    bound_step open_step empty_step close_step text_rule time_rule code_rule name_rule code_of lists small_text all_name_bytes time_of stamp_time instant_of offset
    epoch
    local_seconds is_stamp stamp_of has_form days_of_years days_of_months next_of container_of class.class_of class.find class.names opening.prolog
    opening.declaration texts.content texts.is_fault texts.is_reference comments.comment attribute.name_space attribute.declared attribute.prefixed
    attribute.equals attribute.value tags.tail tags.tag_end starts_with number_from sentence sentence_in cap_text parts_text part_text lasting_text dictionary
    word spaced ones below_hundred below_thousand group number_codes said counted duration_codes lasting cap_place any_text cap_why areas_of up_to_end texts_of shapes_of first_from first_of_kind polygon_rule circle_rule
    circle_holds around_holds in_circle shorter_way cosines circle_of circle_tokens radius_of polygon_holds in_ring on_ring crossings on_edge crosses east_of north_of
    polygon_of places_of is_closed last_of pair_of degrees_of coordinate_at scaled fraction places decimal_length is_decimal leads tokens on_token
    longer
samples = record {
  sample_alert = (refl, refl, refl);
  sample_year = (refl, refl);
  sample_day_end = (refl, refl);
  sample_cancel = refl;
  sample_double = (refl, refl);
  sample_refusals = (refl, refl, refl, refl, refl, refl);
  sample_places = (refl, refl, refl, refl, refl, refl, refl, refl);
  sample_reasons = (refl, refl, refl, refl, refl, refl, refl, refl);
  sample_areas = (refl, refl, refl, refl, refl);
}
