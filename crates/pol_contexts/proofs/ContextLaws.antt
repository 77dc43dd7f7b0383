-- The two laws of the records that hold contexts.
use Rattle.std.proofs.Common.{ℕ, length, append_assoc}
use Rattle.std.proofs.lemmas.List.{append-nil}
use Rattle.pol_fields.specs.declared.field.Field.{Field}
use Rattle.pol_fields.specs.declared.fields.TheConstants.{SID_SID, PORT_PROTOCOL, PORT_LOW, PORT_HIGH, FSUSE_BEHAVIOUR, FSUSE_LEN, FSUSE_NAME, IBPKEY_PREFIX, IBPKEY_LOW, IBPKEY_HIGH, IBENDPORT_LEN, IBENDPORT_PORT, IBENDPORT_NAME}
use Rattle.pol_cursor.specs.Laws.{IsReadAgain, IsReadFromSpelling}
use Rattle.pol_cursor.specs.FileNames.{name_length_at, name_bytes_at}
use Rattle.pol_cursor.proofs.Laws.{Reads-done, Reads-part, Reads-number, Reads-number_if, Reads-string, Reads-string_if, Again-done, Again-part, Again-as, Again-number, Again-number_if, Again-string-of, Again-string_if}
use Rattle.pol_cursor.proofs.NameLaws.{name_spelled, name_again}
use Rattle.pol_mls.proofs.ContextLaws.{context_spelled, context_again}
use Rattle.pol_contexts.specs.SidRecord.{sid_at, spell_sid, SidFits}
use Rattle.pol_contexts.specs.NamedRecord.{named_at, spell_named, NamedFits}
use Rattle.pol_contexts.specs.PortRecord.{port_at, spell_port, PortFits}
use Rattle.pol_contexts.specs.AddressRecord.{address_at, spell_address, AddressFits}
use Rattle.pol_contexts.specs.FsUseRecord.{behaviour_at, fsuse_at, spell_fsuse, FsUseFits}
use Rattle.pol_contexts.specs.IbPkeyRecord.{ibpkey_at, spell_ibpkey, IbPkeyFits}
use Rattle.pol_contexts.specs.IbEndPortRecord.{ibendport_at, spell_ibendport, IbEndPortFits}

-- ---- sid

pub sid_spelled : IsReadFromSpelling (sid_at) spell_sid SidFits
unfolding sid_at
sid_spelled =
    Reads-part (Reads-number SID_SID 4) λ sid sid-fits.
    Reads-part (context_spelled) λ context context-fits.
    Reads-done _ (record { sid = sid; context = context }) (record {
      same = simp (append_assoc, append-nil);
      fitting = record { sid = sid-fits; context = context-fits };
    })

pub sid_again : IsReadAgain (sid_at) spell_sid SidFits
unfolding sid_at
sid_again entry fits =
    Again-as
    (Again-part _ (Again-number SID_SID 4 entry.sid fits.sid)
    (Again-part _ (context_again entry.context fits.context)
    (Again-done entry)))
    (simp (append_assoc, append-nil))

-- ---- named

pub named_spelled : (len_field name_field : Field) → IsReadFromSpelling (named_at len_field name_field) spell_named NamedFits
unfolding named_at
named_spelled len_field name_field =
    Reads-part (name_spelled len_field name_field) λ name name-fits.
    Reads-part (context_spelled) λ context context-fits.
    Reads-part (context_spelled) λ second_context second_context-fits.
    Reads-done _ (record { name = name; context = context; second_context = second_context }) (record {
      same = simp (append_assoc, append-nil);
      fitting = record { name = name-fits; context = context-fits; second_context = second_context-fits };
    })

pub named_again : (len_field name_field : Field) → IsReadAgain (named_at len_field name_field) spell_named NamedFits
unfolding named_at
named_again len_field name_field entry fits =
    Again-as
    (Again-part _ (name_again len_field name_field entry.name fits.name)
    (Again-part _ (context_again entry.context fits.context)
    (Again-part _ (context_again entry.second_context fits.second_context)
    (Again-done entry))))
    (simp (append_assoc, append-nil))

-- ---- port

pub port_spelled : IsReadFromSpelling (port_at) spell_port PortFits
unfolding port_at
port_spelled =
    Reads-part (Reads-number PORT_PROTOCOL 4) λ protocol protocol-fits.
    Reads-part (Reads-number PORT_LOW 4) λ low low-fits.
    Reads-part (Reads-number PORT_HIGH 4) λ high high-fits.
    Reads-part (context_spelled) λ context context-fits.
    Reads-done _ (record { protocol = protocol; low = low; high = high; context = context }) (record {
      same = simp (append_assoc, append-nil);
      fitting = record { protocol = protocol-fits; low = low-fits; high = high-fits; context = context-fits };
    })

pub port_again : IsReadAgain (port_at) spell_port PortFits
unfolding port_at
port_again entry fits =
    Again-as
    (Again-part _ (Again-number PORT_PROTOCOL 4 entry.protocol fits.protocol)
    (Again-part _ (Again-number PORT_LOW 4 entry.low fits.low)
    (Again-part _ (Again-number PORT_HIGH 4 entry.high fits.high)
    (Again-part _ (context_again entry.context fits.context)
    (Again-done entry)))))
    (simp (append_assoc, append-nil))

-- ---- address

pub address_spelled : (address_field mask_field : Field) (width : ℕ) → IsReadFromSpelling (address_at address_field mask_field width) spell_address (AddressFits width)
unfolding address_at
address_spelled address_field mask_field width =
    Reads-part (Reads-string address_field width) λ address address-fits.
    Reads-part (Reads-string mask_field width) λ mask mask-fits.
    Reads-part (context_spelled) λ context context-fits.
    Reads-done _ (record { address = address; mask = mask; context = context }) (record {
      same = simp (append_assoc, append-nil);
      fitting = record { address = address-fits; mask = mask-fits; context = context-fits };
    })

pub address_again : (address_field mask_field : Field) (width : ℕ) → IsReadAgain (address_at address_field mask_field width) spell_address (AddressFits width)
unfolding address_at
address_again address_field mask_field width entry fits =
    Again-as
    (Again-part _ (Again-string-of address_field width entry.address fits.address)
    (Again-part _ (Again-string-of mask_field width entry.mask fits.mask)
    (Again-part _ (context_again entry.context fits.context)
    (Again-done entry))))
    (simp (append_assoc, append-nil))

-- ---- fsuse

pub fsuse_spelled : IsReadFromSpelling (fsuse_at) spell_fsuse FsUseFits
unfolding fsuse_at behaviour_at
fsuse_spelled =
    Reads-part (Reads-number_if FSUSE_BEHAVIOUR 4) λ behaviour behaviour-fits.
    Reads-part (name_spelled FSUSE_LEN FSUSE_NAME) λ name name-fits.
    Reads-part (context_spelled) λ context context-fits.
    Reads-done _ (record { behaviour = behaviour; name = name; context = context }) (record {
      same = simp (append_assoc, append-nil);
      fitting = record { behaviour = behaviour-fits.0; name = name-fits; context = context-fits };
    })

pub fsuse_again : IsReadAgain (fsuse_at) spell_fsuse FsUseFits
unfolding fsuse_at behaviour_at
fsuse_again entry fits =
    Again-as
    (Again-part _ (Again-number_if FSUSE_BEHAVIOUR 4 entry.behaviour _ fits.behaviour)
    (Again-part _ (name_again FSUSE_LEN FSUSE_NAME entry.name fits.name)
    (Again-part _ (context_again entry.context fits.context)
    (Again-done entry))))
    (simp (append_assoc, append-nil))

-- ---- ibpkey

pub ibpkey_spelled : IsReadFromSpelling (ibpkey_at) spell_ibpkey IbPkeyFits
unfolding ibpkey_at
ibpkey_spelled =
    Reads-part (Reads-string IBPKEY_PREFIX 8) λ prefix prefix-fits.
    Reads-part (Reads-number IBPKEY_LOW 4) λ low low-fits.
    Reads-part (Reads-number IBPKEY_HIGH 4) λ high high-fits.
    Reads-part (context_spelled) λ context context-fits.
    Reads-done _ (record { prefix = prefix; low = low; high = high; context = context }) (record {
      same = simp (append_assoc, append-nil);
      fitting = record { prefix = prefix-fits; low = low-fits; high = high-fits; context = context-fits };
    })

pub ibpkey_again : IsReadAgain (ibpkey_at) spell_ibpkey IbPkeyFits
unfolding ibpkey_at
ibpkey_again entry fits =
    Again-as
    (Again-part _ (Again-string-of IBPKEY_PREFIX 8 entry.prefix fits.prefix)
    (Again-part _ (Again-number IBPKEY_LOW 4 entry.low fits.low)
    (Again-part _ (Again-number IBPKEY_HIGH 4 entry.high fits.high)
    (Again-part _ (context_again entry.context fits.context)
    (Again-done entry)))))
    (simp (append_assoc, append-nil))

-- ---- ibendport

pub ibendport_spelled : IsReadFromSpelling (ibendport_at) spell_ibendport IbEndPortFits
unfolding ibendport_at name_length_at name_bytes_at
ibendport_spelled =
    Reads-part (Reads-number_if IBENDPORT_LEN 4) λ len len-fits.
    Reads-part (Reads-number IBENDPORT_PORT 4) λ port port-fits.
    Reads-part (Reads-string_if IBENDPORT_NAME len) λ name name-fits.
    Reads-part (context_spelled) λ context context-fits.
    Reads-done _ (record { port = port; name = name; context = context }) (record {
      same = rw (name-fits.0) (simp (append_assoc, append-nil));
      fitting = record { port = port-fits; name = rw (name-fits.0) (len-fits.0); context = context-fits };
    })

pub ibendport_again : IsReadAgain (ibendport_at) spell_ibendport IbEndPortFits
unfolding ibendport_at name_length_at name_bytes_at
ibendport_again entry fits =
    Again-as
    (Again-part _ (Again-number_if IBENDPORT_LEN 4 (length entry.name) _ fits.name)
    (Again-part _ (Again-number IBENDPORT_PORT 4 entry.port fits.port)
    (Again-part _ (Again-string_if IBENDPORT_NAME entry.name _)
    (Again-part _ (context_again entry.context fits.context)
    (Again-done entry)))))
    (simp (append_assoc, append-nil))
