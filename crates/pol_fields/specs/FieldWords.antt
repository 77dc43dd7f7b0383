-- The word of each field: the record's, a point and the part's (this project's profile).
use Rattle.std.specs.Prelude.{ℕ, zero, suc, List, [], ◌∷◌, ◌++◌, map, codes, Option, None, slice_get, unwrap_or}
use Rattle.pol_fields.specs.declared.field.Field.{Field}

-- the words of a record's fields
abbrev pub fields_of : List ℕ → List (List ℕ) → List (List ℕ)
fields_of record_word part_words = map (λ part_word. record_word ++ codes "." ++ part_word) part_words

-- the words of all fields, by the record's code and the part's number
abbrev pub all_words : List (List (List ℕ))
all_words =
    fields_of (codes "header") (codes "magic" ∷ codes "idlen" ∷ codes "id" ∷ codes "version" ∷ codes "config" ∷ codes "symtabs" ∷ codes "contexts" ∷ []) ∷
    fields_of (codes "bitmap") (codes "unit" ∷ codes "highbit" ∷ codes "count" ∷ codes "startbit" ∷ codes "map" ∷ []) ∷
    fields_of (codes "table") (codes "nprim" ∷ codes "nel" ∷ []) ∷
    fields_of (codes "permission") (codes "len" ∷ codes "value" ∷ codes "name" ∷ []) ∷
    fields_of (codes "common") (codes "len" ∷ codes "value" ∷ codes "nprim" ∷ codes "nel" ∷ codes "name" ∷ []) ∷
    fields_of (codes "class") (codes "len" ∷ codes "len2" ∷ codes "value" ∷ codes "nprim" ∷ codes "nel" ∷ codes "ncons" ∷ codes "name" ∷ codes "common" ∷ codes "nvalid" ∷ codes "default_user" ∷ codes "default_role" ∷ codes "default_range" ∷ codes "default_type" ∷ []) ∷
    fields_of (codes "constraint") (codes "permissions" ∷ codes "nexpr" ∷ codes "kind" ∷ codes "attr" ∷ codes "op" ∷ codes "flags" ∷ []) ∷
    fields_of (codes "role") (codes "len" ∷ codes "value" ∷ codes "bounds" ∷ codes "name" ∷ []) ∷
    fields_of (codes "type") (codes "len" ∷ codes "value" ∷ codes "properties" ∷ codes "bounds" ∷ codes "name" ∷ []) ∷
    fields_of (codes "user") (codes "len" ∷ codes "value" ∷ codes "bounds" ∷ codes "name" ∷ []) ∷
    fields_of (codes "boolean") (codes "value" ∷ codes "state" ∷ codes "len" ∷ codes "name" ∷ []) ∷
    fields_of (codes "sensitivity") (codes "len" ∷ codes "isalias" ∷ codes "name" ∷ codes "sens" ∷ []) ∷
    fields_of (codes "category") (codes "len" ∷ codes "value" ∷ codes "isalias" ∷ codes "name" ∷ []) ∷
    fields_of (codes "level") (codes "sens" ∷ []) ∷
    fields_of (codes "range") (codes "n" ∷ codes "low" ∷ codes "high" ∷ []) ∷
    fields_of (codes "av") (codes "source" ∷ codes "target" ∷ codes "class" ∷ codes "specified" ∷ codes "xkind" ∷ codes "driver" ∷ codes "bits" ∷ codes "data" ∷ []) ∷
    fields_of (codes "avtab") (codes "nel" ∷ []) ∷
    fields_of (codes "condlist") (codes "count" ∷ []) ∷
    fields_of (codes "condnode") (codes "state" ∷ codes "nexpr" ∷ codes "kind" ∷ codes "boolean" ∷ codes "ntrue" ∷ codes "nfalse" ∷ []) ∷
    fields_of (codes "roletrans") (codes "count" ∷ codes "role" ∷ codes "type" ∷ codes "newrole" ∷ codes "class" ∷ []) ∷
    fields_of (codes "roleallow") (codes "count" ∷ codes "role" ∷ codes "newrole" ∷ []) ∷
    fields_of (codes "nametrans") (codes "count" ∷ codes "len" ∷ codes "name" ∷ codes "source" ∷ codes "target" ∷ codes "class" ∷ codes "default" ∷ []) ∷
    fields_of (codes "namegroup") (codes "count" ∷ codes "len" ∷ codes "name" ∷ codes "target" ∷ codes "class" ∷ codes "ndatum" ∷ codes "default" ∷ []) ∷
    fields_of (codes "context") (codes "user" ∷ codes "role" ∷ codes "type" ∷ []) ∷
    fields_of (codes "sid") (codes "count" ∷ codes "sid" ∷ []) ∷
    fields_of (codes "fs") (codes "count" ∷ codes "len" ∷ codes "name" ∷ []) ∷
    fields_of (codes "port") (codes "count" ∷ codes "protocol" ∷ codes "low" ∷ codes "high" ∷ []) ∷
    fields_of (codes "netif") (codes "count" ∷ codes "len" ∷ codes "name" ∷ []) ∷
    fields_of (codes "node") (codes "count" ∷ codes "address" ∷ codes "mask" ∷ []) ∷
    fields_of (codes "fsuse") (codes "count" ∷ codes "behaviour" ∷ codes "len" ∷ codes "name" ∷ []) ∷
    fields_of (codes "node6") (codes "count" ∷ codes "address" ∷ codes "mask" ∷ []) ∷
    fields_of (codes "ibpkey") (codes "count" ∷ codes "prefix" ∷ codes "low" ∷ codes "high" ∷ []) ∷
    fields_of (codes "ibendport") (codes "count" ∷ codes "len" ∷ codes "port" ∷ codes "name" ∷ []) ∷
    fields_of (codes "genfs") (codes "count" ∷ codes "len" ∷ codes "fstype" ∷ codes "npaths" ∷ codes "pathlen" ∷ codes "path" ∷ codes "class" ∷ []) ∷
    fields_of (codes "rangetrans") (codes "count" ∷ codes "source" ∷ codes "target" ∷ codes "class" ∷ []) ∷
    fields_of (codes "end") (codes "end" ∷ []) ∷
    []

-- the item of that number, counted from 1
abbrev pub numbered : {A : Type 0} → List A → ℕ → Option A
numbered xs zero = None
numbered xs (suc n) = slice_get xs n

abbrev pub record_words : ℕ → List (List ℕ)
record_words row = unwrap_or (numbered all_words row) []

-- the word of a field, which is empty for a code that the format does not have
abbrev pub field_word : Field → List ℕ
field_word field = unwrap_or (numbered (record_words field.row) field.part) []
