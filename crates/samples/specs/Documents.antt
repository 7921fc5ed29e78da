-- Worked samples: small documents, accepted with their elements and number of parts, or refused with number and place.
use Rattle.std.specs.Prelude.{◌≡◌, refl, List, [], ◌∷◌, ◌++◌, ℕ}
use Rattle.text.specs.Ascii.{ascii}
use Rattle.text.specs.Bytes.{number_from}
use Rattle.text.specs.Parts.{starts_with}
use Rattle.text.specs.Answers.{gives, refuses}
use Rattle.xml_tags.specs.Tags as tags
use Rattle.xml_tags.specs.Attributes as attribute
use Rattle.xml.specs.Comments as comments
use Rattle.xml.specs.Texts as texts
use Rattle.xml.specs.Opening as opening
use Rattle.schema.specs.Classes as class
use Rattle.schema.specs.Sequences.{container_of, next_of}
use Rattle.time.specs.Calendar.{days_of_years, days_of_months}
use Rattle.time.specs.Time.{has_form, stamp_of, is_stamp, local_seconds, epoch, offset, instant_of, stamp_time, time_of}
use Rattle.sheet.specs.Sheet.{all_name_bytes}
use Rattle.codes.specs.Lists.{lists, code_of}
use Rattle.rules.specs.Texts.{name_rule, code_rule, time_rule, text_rule}
use Rattle.document.specs.Elements.{opened, text, closed, starts}
use Rattle.document.specs.Tags.{open_step, empty_step, bound_step, local_name, is_alert, start_step, close_step, ended_step, tag_step}
use Rattle.document.specs.Constructs.{construct_step, step_of}
use Rattle.document.specs.Documents.{first_step, run, document_of, check_of}

-- ---- parts of documents

-- 52 bytes
abbrev pub start : List ℕ
start = ascii "<alert xmlns=\"urn:oasis:names:tc:emergency:cap:1.2\">"

-- 95 bytes
abbrev pub front : List ℕ
front = ascii "<identifier>A17</identifier><sender>kiln.example</sender><sent>2002-05-24T16:49:00-07:00</sent>"

-- what the schema requires of an alert
abbrev pub head : List ℕ
head = front ++ ascii "<status>Actual</status><msgType>Alert</msgType><scope>Public</scope>"

-- what it requires of an info
abbrev pub info : List ℕ
info =
    ascii "<info><category>Met</category><event/><urgency>Immediate</urgency>"
    ++ ascii "<severity>Extreme</severity><certainty>Observed</certainty></info>"

abbrev pub end : List ℕ
end = ascii "</alert>"

-- the same as start, head and end under a prefix, with white space, a comment and an empty tag
abbrev pub prefixed : List ℕ
prefixed =
    ascii "<!-- c --> <c:alert xmlns:c = 'urn:oasis:names:tc:emergency:cap:1.2' >\n<c:identifier>A17</c:identifier >"
    ++ ascii "<c:sender>kiln.example</c:sender><c:sent>2002-05-24T16:49:00-07:00</c:sent><c:status>Actual</c:status>"
    ++ ascii "<c:msgType>Alert</c:msgType><c:scope>Public</c:scope><c:note/></c:alert>\n"

-- ---- the samples

pub record Samples : Type 0 where
  -- the elements of a document with one part
  pub sample_elements :
      document_of (start ++ head ++ info ++ end)
      ≡ gives
      (opened class.alert 0 ∷ text class.identifier 64 (ascii "A17") ∷ text class.sender 88 (ascii "kiln.example")
      ∷ text class.sent 115 (ascii "2002-05-24T16:49:00-07:00") ∷ text class.status 155 (ascii "Actual")
      ∷ text class.msg_type 179 (ascii "Alert") ∷ text class.scope 201 (ascii "Public")
      ∷ opened class.info 215 ∷ text class.category 231 (ascii "Met") ∷ text class.event 253 (ascii "")
      ∷ text class.urgency 262 (ascii "Immediate") ∷ text class.severity 291 (ascii "Extreme")
      ∷ text class.certainty 320 (ascii "Observed") ∷ closed class.info ∷ closed class.alert ∷ [])
  -- one part and none; a declaration before, the last one under a prefix
  pub sample_parts :
      (check_of (start ++ head ++ info ++ end) ≡ gives 1)
      × (check_of (ascii "<?xml version=\"1.0\"?>" ++ start ++ head ++ end) ≡ gives 0)
      × (check_of prefixed ≡ gives 0)
  -- the first tag: no alert, without and with the attribute; an alert without it, with another name space, with a prefix that it lacks
  pub sample_first :
      (check_of (ascii "<html>") ≡ refuses 16 0)
      × (check_of (ascii "<html xmlns=\"urn:oasis:names:tc:emergency:cap:1.2\">") ≡ refuses 15 0)
      × (check_of (ascii "<alert>") ≡ refuses 15 0)
      × (check_of (ascii "<alert xmlns=\"urn:oasis:names:tc:emergency:cap:1.1\">") ≡ refuses 15 0)
      × (check_of (ascii "<alert xmlns:c=\"urn:oasis:names:tc:emergency:cap:1.2\">") ≡ refuses 16 0)
  -- input that stops short: nothing, between elements, in a text, in a tag, in a comment
  pub sample_short :
      (check_of (ascii "") ≡ refuses 15 0)
      × (check_of (start) ≡ refuses 15 52)
      × (check_of (start ++ ascii "<identifier>A17") ≡ refuses 15 67)
      × (check_of (start ++ ascii "<identifier") ≡ refuses 15 63)
      × (check_of (start ++ ascii "<!-- c --") ≡ refuses 15 61)
  -- something missing at the end tag, at the next element, in an empty container; an element in a leaf; no prefix where the alert has one
  pub sample_order :
      (check_of (start ++ front ++ end) ≡ refuses 16 147)
      × (check_of (start ++ ascii "<identifier>A17</identifier><sent>") ≡ refuses 16 80)
      × (check_of (start ++ head ++ ascii "<info/>") ≡ refuses 16 215)
      × (check_of (start ++ ascii "<identifier>A17<b/></identifier>") ≡ refuses 16 67)
      × (check_of (ascii "<c:alert xmlns:c=\"urn:oasis:names:tc:emergency:cap:1.2\"><identifier>") ≡ refuses 16 56)
  -- a wrong end tag; one without the prefix; a comment in a leaf; a comment with "--"; a reference; a stray byte; CDATA; a tag after the alert
  pub sample_form :
      (check_of (start ++ ascii "<identifier>A17</sender>") ≡ refuses 15 67)
      × (check_of (ascii "<c:alert xmlns:c=\"urn:oasis:names:tc:emergency:cap:1.2\"><c:identifier>A17</identifier>") ≡ refuses 15 73)
      × (check_of (start ++ ascii "<identifier>A17<!-- c --></identifier>") ≡ refuses 15 67)
      × (check_of (start ++ ascii "<!-- a -- b -->") ≡ refuses 15 52)
      × (check_of (start ++ ascii "<identifier>A &copy; B</identifier>") ≡ refuses 15 66)
      × (check_of (start ++ ascii "x") ≡ refuses 15 52)
      × (check_of (start ++ ascii "<![CDATA[x]]>") ≡ refuses 15 52)
      × (check_of (start ++ head ++ end ++ ascii "<x>") ≡ refuses 15 223)
  -- a text is tested up to the next "<", at the byte after its start tag: no code; cut by a comment; empty before a comment; an empty tag
  pub sample_texts :
      (check_of (start ++ front ++ ascii "<status>Bad<") ≡ refuses 17 155)
      × (check_of (start ++ front ++ ascii "<status>Act<!-- c -->ual</status>") ≡ refuses 17 155)
      × (check_of (start ++ ascii "<identifier><!-- c -->A17</identifier>") ≡ refuses 19 64)
      × (check_of (start ++ ascii "<identifier/>") ≡ refuses 19 65)

pub samples : Samples
unfolding document_of first_step run step_of construct_step tag_step ended_step start_step is_alert local_name bound_step open_step empty_step close_step text_rule
    time_rule code_rule name_rule code_of lists all_name_bytes time_of stamp_time instant_of offset epoch local_seconds is_stamp stamp_of has_form days_of_years
    days_of_months next_of container_of class.class_of class.find class.names opening.prolog opening.declaration texts.content texts.is_fault
    texts.is_reference comments.comment attribute.name_space attribute.declared attribute.prefixed attribute.equals attribute.value tags.tail
    tags.tag_end starts_with number_from check_of starts
samples = record {
  sample_elements = refl;
  sample_parts = (refl, refl, refl);
  sample_first = (refl, refl, refl, refl, refl);
  sample_short = (refl, refl, refl, refl, refl);
  sample_order = (refl, refl, refl, refl, refl);
  sample_form = (refl, refl, refl, refl, refl, refl, refl, refl);
  sample_texts = (refl, refl, refl, refl);
}
