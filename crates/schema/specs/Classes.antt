-- The elements of CAP 1.2 by name (source document 007, clause 7.4). An element's class is its number here; class 0 is no element.
use Rattle.std.specs.Prelude.{List, [], ◌∷◌, ℕ, get_or}
use Rattle.text.specs.Ascii.{ascii}
unfoldable pub use Rattle.text.specs.Search.{find}

-- ---- containers

abbrev pub alert : ℕ
alert = 1

abbrev pub info : ℕ
info = 2

abbrev pub resource : ℕ
resource = 3

abbrev pub area : ℕ
area = 4

abbrev pub event_code : ℕ
event_code = 5

abbrev pub parameter : ℕ
parameter = 6

abbrev pub geocode : ℕ
geocode = 7

-- ---- leaves: of alert, info, resource, area, and of the pairs of name and value

abbrev pub identifier : ℕ
identifier = 8

abbrev pub sender : ℕ
sender = 9

abbrev pub sent : ℕ
sent = 10

abbrev pub status : ℕ
status = 11

abbrev pub msg_type : ℕ
msg_type = 12

abbrev pub source : ℕ
source = 13

abbrev pub scope : ℕ
scope = 14

abbrev pub restriction : ℕ
restriction = 15

abbrev pub addresses : ℕ
addresses = 16

abbrev pub code : ℕ
code = 17

abbrev pub note : ℕ
note = 18

abbrev pub references : ℕ
references = 19

abbrev pub incidents : ℕ
incidents = 20

abbrev pub language : ℕ
language = 21

abbrev pub category : ℕ
category = 22

abbrev pub event : ℕ
event = 23

abbrev pub response_type : ℕ
response_type = 24

abbrev pub urgency : ℕ
urgency = 25

abbrev pub severity : ℕ
severity = 26

abbrev pub certainty : ℕ
certainty = 27

abbrev pub audience : ℕ
audience = 28

abbrev pub effective : ℕ
effective = 29

abbrev pub onset : ℕ
onset = 30

abbrev pub expires : ℕ
expires = 31

abbrev pub sender_name : ℕ
sender_name = 32

abbrev pub headline : ℕ
headline = 33

abbrev pub description : ℕ
description = 34

abbrev pub instruction : ℕ
instruction = 35

abbrev pub web : ℕ
web = 36

abbrev pub contact : ℕ
contact = 37

abbrev pub resource_desc : ℕ
resource_desc = 38

abbrev pub mime_type : ℕ
mime_type = 39

abbrev pub size : ℕ
size = 40

abbrev pub uri : ℕ
uri = 41

abbrev pub deref_uri : ℕ
deref_uri = 42

abbrev pub digest : ℕ
digest = 43

abbrev pub area_desc : ℕ
area_desc = 44

abbrev pub polygon : ℕ
polygon = 45

abbrev pub circle : ℕ
circle = 46

abbrev pub altitude : ℕ
altitude = 47

abbrev pub ceiling : ℕ
ceiling = 48

abbrev pub value_name : ℕ
value_name = 49

abbrev pub value : ℕ
value = 50

-- the names in the order of their classes
unfoldable pub names : List (List ℕ)
names =
    [] ∷ ascii "alert" ∷ ascii "info" ∷ ascii "resource" ∷ ascii "area" ∷ ascii "eventCode" ∷ ascii "parameter" ∷
    ascii "geocode" ∷ ascii "identifier" ∷ ascii "sender" ∷ ascii "sent" ∷ ascii "status" ∷ ascii "msgType" ∷ ascii "source" ∷
    ascii "scope" ∷ ascii "restriction" ∷ ascii "addresses" ∷ ascii "code" ∷ ascii "note" ∷ ascii "references" ∷
    ascii "incidents" ∷ ascii "language" ∷ ascii "category" ∷ ascii "event" ∷ ascii "responseType" ∷ ascii "urgency" ∷
    ascii "severity" ∷ ascii "certainty" ∷ ascii "audience" ∷ ascii "effective" ∷ ascii "onset" ∷ ascii "expires" ∷
    ascii "senderName" ∷ ascii "headline" ∷ ascii "description" ∷ ascii "instruction" ∷ ascii "web" ∷ ascii "contact" ∷
    ascii "resourceDesc" ∷ ascii "mimeType" ∷ ascii "size" ∷ ascii "uri" ∷ ascii "derefUri" ∷ ascii "digest" ∷ ascii "areaDesc" ∷
    ascii "polygon" ∷ ascii "circle" ∷ ascii "altitude" ∷ ascii "ceiling" ∷ ascii "valueName" ∷ ascii "value" ∷ []

-- the name of a class
abbrev pub name_of : ℕ → List ℕ
name_of c = get_or names c []

-- the class of a name, 0 where no element has it
unfoldable pub class_of : List ℕ → ℕ
class_of t = find 0 t names

-- alert, info, resource, area, eventCode, parameter, geocode
abbrev pub last_container : ℕ
last_container = geocode
