-- Contexts fit, and the records that have them.
use Rattle.std.proofs.Common.{◌≡◌, ℕ, ◌<◌, ◌^◌, length, arith}
use Rattle.std.proofs.lemmas.List.{length-append}
use Rattle.pol_cursor.proofs.Numbers.{length-bytes_of}
use Rattle.pol_mls.specs.RangeRecord.{spell_range, RangeFits}
use Rattle.pol_mls.specs.declared.ContextRec.{ContextRec}
use Rattle.pol_mls.specs.ContextRecord.{spell_context, ContextFits}
use Rattle.pol_contexts.specs.declared.SidRec.{SidRec}
use Rattle.pol_contexts.specs.declared.NamedRec.{NamedRec}
use Rattle.pol_contexts.specs.declared.PortRec.{PortRec}
use Rattle.pol_contexts.specs.declared.AddressRec.{AddressRec}
use Rattle.pol_contexts.specs.declared.FsUseRec.{FsUseRec}
use Rattle.pol_contexts.specs.declared.IbPkeyRec.{IbPkeyRec}
use Rattle.pol_contexts.specs.declared.IbEndPortRec.{IbEndPortRec}
use Rattle.pol_contexts.specs.SidRecord.{spell_sid, SidFits}
use Rattle.pol_contexts.specs.NamedRecord.{spell_named, NamedFits}
use Rattle.pol_contexts.specs.PortRecord.{spell_port, PortFits}
use Rattle.pol_contexts.specs.AddressRecord.{spell_address, AddressFits}
use Rattle.pol_contexts.specs.FsUseRecord.{spell_fsuse, FsUseFits}
use Rattle.pol_contexts.specs.IbPkeyRecord.{spell_ibpkey, IbPkeyFits}
use Rattle.pol_contexts.specs.IbEndPortRecord.{spell_ibendport, IbEndPortFits}
use Rattle.pol_genfs.specs.declared.GenfsPathRec.{GenfsPathRec}
use Rattle.pol_genfs.specs.declared.GenfsRec.{GenfsRec}
use Rattle.pol_genfs.specs.GenfsRecord.{spell_path, PathFits, spell_genfs, GenfsFits}
use Rattle.pol_tree.specs.RecordShapes.{shape_of_range, shape_of_context, shape_of_sid, shape_of_named, shape_of_port, shape_of_address, shape_of_fsuse, shape_of_ibpkey, shape_of_ibendport, shape_of_path, shape_of_genfs}
use Rattle.pol_tree.specs.Inner.Fitting.{IsFitting, AreFitting}
use Rattle.pol_tree.proofs.Wrongs.{none_each}

pub context_fits : (context : ContextRec) → context.user < 2 ^ 32 → context.role < 2 ^ 32 → context.type_value < 2 ^ 32 → IsFitting shape_of_range RangeFits spell_range context.range → IsFitting shape_of_context ContextFits spell_context context
context_fits context user role type_value range = record {
  some = simp length-append (omega (arith, length-bytes_of 4 context.user));
  fitting = λ right few.
      let each = simp length-append at few in
      record {
        user = user;
        role = role;
        type_value = type_value;
        range = range.fitting right (simp length-append (omega (arith, each)));
      };
}

pub sid_fits : (entry : SidRec) → entry.sid < 2 ^ 32 → IsFitting shape_of_context ContextFits spell_context entry.context → IsFitting shape_of_sid SidFits spell_sid entry
sid_fits entry sid context = record {
  some = simp length-append (omega (arith, length-bytes_of 4 entry.sid));
  fitting = λ right few.
      let each = simp length-append at few in
      record {
        sid = sid;
        context = context.fitting right (simp length-append (omega (arith, each)));
      };
}

pub named_fits : (entry : NamedRec) → IsFitting shape_of_context ContextFits spell_context entry.context → IsFitting shape_of_context ContextFits spell_context entry.second_context → IsFitting shape_of_named NamedFits spell_named entry
named_fits entry context second_context = record {
  some = simp length-append (omega (arith, length-bytes_of 4 (length entry.name)));
  fitting = λ right few.
      let each = simp length-append at few in
      let rights = none_each _ _ right in
      record {
        name = omega (arith, each);
        context = context.fitting rights.0 (simp length-append (omega (arith, each)));
        second_context = second_context.fitting (none_each _ _ rights.1).0 (simp length-append (omega (arith, each)));
      };
}

pub port_fits : (entry : PortRec) → entry.protocol < 2 ^ 32 → entry.low < 2 ^ 32 → entry.high < 2 ^ 32 → IsFitting shape_of_context ContextFits spell_context entry.context → IsFitting shape_of_port PortFits spell_port entry
port_fits entry protocol low high context = record {
  some = simp length-append (omega (arith, length-bytes_of 4 entry.protocol));
  fitting = λ right few.
      let each = simp length-append at few in
      record {
        protocol = protocol;
        low = low;
        high = high;
        context = context.fitting right (simp length-append (omega (arith, each)));
      };
}

pub address_fits : (width : ℕ) (entry : AddressRec width) → length entry.address ≡ width → length entry.mask ≡ width → IsFitting shape_of_context ContextFits spell_context entry.context → IsFitting shape_of_address (AddressFits width) spell_address entry
address_fits width entry address mask context = record {
  some = simp length-append (omega (arith, length-bytes_of 4 entry.context.user));
  fitting = λ right few.
      let each = simp length-append at few in
      record {
        address = address;
        mask = mask;
        context = context.fitting right (simp length-append (omega (arith, each)));
      };
}

pub fsuse_fits : (entry : FsUseRec) → entry.behaviour < 2 ^ 32 → IsFitting shape_of_context ContextFits spell_context entry.context → IsFitting shape_of_fsuse FsUseFits spell_fsuse entry
fsuse_fits entry behaviour context = record {
  some = simp length-append (omega (arith, length-bytes_of 4 entry.behaviour));
  fitting = λ right few.
      let each = simp length-append at few in
      record {
        behaviour = behaviour;
        name = omega (arith, each);
        context = context.fitting right (simp length-append (omega (arith, each)));
      };
}

pub ibpkey_fits : (entry : IbPkeyRec) → length entry.prefix ≡ 8 → entry.low < 2 ^ 32 → entry.high < 2 ^ 32 → IsFitting shape_of_context ContextFits spell_context entry.context → IsFitting shape_of_ibpkey IbPkeyFits spell_ibpkey entry
ibpkey_fits entry prefix low high context = record {
  some = simp length-append (omega (arith, length-bytes_of 4 entry.low));
  fitting = λ right few.
      let each = simp length-append at few in
      record {
        prefix = prefix;
        low = low;
        high = high;
        context = context.fitting right (simp length-append (omega (arith, each)));
      };
}

pub ibendport_fits : (entry : IbEndPortRec) → entry.port < 2 ^ 32 → IsFitting shape_of_context ContextFits spell_context entry.context → IsFitting shape_of_ibendport IbEndPortFits spell_ibendport entry
ibendport_fits entry port context = record {
  some = simp length-append (omega (arith, length-bytes_of 4 entry.port));
  fitting = λ right few.
      let each = simp length-append at few in
      record {
        port = port;
        name = omega (arith, each);
        context = context.fitting right (simp length-append (omega (arith, each)));
      };
}

pub path_fits : (entry : GenfsPathRec) → entry.class < 2 ^ 32 → IsFitting shape_of_context ContextFits spell_context entry.context → IsFitting shape_of_path PathFits spell_path entry
path_fits entry class context = record {
  some = simp length-append (omega (arith, length-bytes_of 4 entry.class));
  fitting = λ right few.
      let each = simp length-append at few in
      record {
        path = omega (arith, each);
        class = class;
        context = context.fitting right (simp length-append (omega (arith, each)));
      };
}

pub genfs_fits : (entry : GenfsRec) → AreFitting shape_of_path PathFits spell_path entry.paths → IsFitting shape_of_genfs GenfsFits spell_genfs entry
genfs_fits entry paths = record {
  some = simp length-append (omega (arith, length-bytes_of 4 (length entry.fstype)));
  fitting = λ right few.
      let each = simp length-append at few in
      record {
        fstype = omega (arith, each);
        paths = paths.fitting right (omega (arith, each));
      };
}
