-- The records of rules and of contexts are read in the same way wherever they stand.
use Rattle.std.proofs.Common.{ℕ, None}
use Rattle.pol_fields.specs.declared.Field.{Field}
use Rattle.pol_expr.specs.ConditionRecord.{item_at, items_at, condition_at, values_after_item}
use Rattle.pol_trans.specs.RoleTransRecord.{role_trans_at}
use Rattle.pol_trans.specs.RoleAllowRecord.{role_allow_at}
use Rattle.pol_trans.specs.NameTransRecord.{name_trans_at}
use Rattle.pol_trans.specs.NameGroupRecord.{name_datum_at, name_group_at}
use Rattle.pol_trans.specs.RangeTransRecord.{range_trans_at}
use Rattle.pol_contexts.specs.SidRecord.{sid_at}
use Rattle.pol_contexts.specs.NamedRecord.{named_at}
use Rattle.pol_contexts.specs.PortRecord.{port_at}
use Rattle.pol_contexts.specs.AddressRecord.{address_at}
use Rattle.pol_contexts.specs.FsUseRecord.{behaviour_at, fsuse_at}
use Rattle.pol_contexts.specs.IbPkeyRecord.{ibpkey_at}
use Rattle.pol_contexts.specs.IbEndPortRecord.{ibendport_at}
use Rattle.pol_genfs.specs.GenfsRecord.{path_at, genfs_at}
use Rattle.pol_moved.proofs.Moves.{Moves, moves-done, moves-then, moves-number, moves-number_if, moves-string, moves-list_of, moves-counted_records}
use Rattle.pol_moved.proofs.MovesSymbols.{moves-name_length, moves-name_bytes, moves-name, moves-bitmap, moves-range, moves-context}

-- ---- conditions

moves-item : (left values : ℕ) → Moves (item_at left values)
unfolding item_at
moves-item left values = moves-then (moves-number_if _ 4 _) λ kind. moves-then (moves-number _ 4) λ boolean. moves-done _

pub moves-condition : Moves condition_at
unfolding condition_at items_at
moves-condition =
    moves-then (moves-number _ 4) λ state.
    moves-then (moves-number_if _ 4 _) λ count.
    moves-then (moves-list_of item_at values_after_item moves-item count 0) λ items.
    moves-done _

-- ---- transitions

pub moves-role_trans : Moves role_trans_at
unfolding role_trans_at
moves-role_trans = moves-then (moves-number _ 4) λ role. moves-then (moves-number _ 4) λ type_value. moves-then (moves-number _ 4) λ newrole. moves-then (moves-number _ 4) λ class. moves-done _

pub moves-role_allow : Moves role_allow_at
unfolding role_allow_at
moves-role_allow = moves-then (moves-number _ 4) λ role. moves-then (moves-number _ 4) λ newrole. moves-done _

pub moves-name_trans : Moves name_trans_at
unfolding name_trans_at
moves-name_trans =
    moves-then (moves-name _ _) λ name.
    moves-then (moves-number _ 4) λ source.
    moves-then (moves-number _ 4) λ target.
    moves-then (moves-number _ 4) λ class.
    moves-then (moves-number _ 4) λ default.
    moves-done _

moves-name_datum : Moves name_datum_at
unfolding name_datum_at
moves-name_datum = moves-then (moves-bitmap None) λ sources. moves-then (moves-number _ 4) λ default. moves-done _

pub moves-name_group : Moves name_group_at
unfolding name_group_at
moves-name_group =
    moves-then (moves-name _ _) λ name.
    moves-then (moves-number _ 4) λ target.
    moves-then (moves-number _ 4) λ class.
    moves-then (moves-counted_records _ name_datum_at moves-name_datum) λ datums.
    moves-done _

pub moves-range_trans : Moves range_trans_at
unfolding range_trans_at
moves-range_trans = moves-then (moves-number _ 4) λ source. moves-then (moves-number _ 4) λ target. moves-then (moves-number _ 4) λ class. moves-then moves-range λ range. moves-done _

-- ---- contexts

pub moves-sid : Moves sid_at
unfolding sid_at
moves-sid = moves-then (moves-number _ 4) λ sid. moves-then moves-context λ context. moves-done _

pub moves-named : (len_field name_field : Field) → Moves (named_at len_field name_field)
unfolding named_at
moves-named len_field name_field = moves-then (moves-name len_field name_field) λ name. moves-then moves-context λ context. moves-then moves-context λ second_context. moves-done _

pub moves-port : Moves port_at
unfolding port_at
moves-port = moves-then (moves-number _ 4) λ protocol. moves-then (moves-number _ 4) λ low. moves-then (moves-number _ 4) λ high. moves-then moves-context λ context. moves-done _

pub moves-address : (address_field mask_field : Field) (width : ℕ) → Moves (address_at address_field mask_field width)
unfolding address_at
moves-address address_field mask_field width = moves-then (moves-string address_field width) λ address. moves-then (moves-string mask_field width) λ mask. moves-then moves-context λ context. moves-done _

moves-behaviour : Moves behaviour_at
unfolding behaviour_at
moves-behaviour = moves-number_if _ 4 _

pub moves-fsuse : Moves fsuse_at
unfolding fsuse_at
moves-fsuse = moves-then moves-behaviour λ behaviour. moves-then (moves-name _ _) λ name. moves-then moves-context λ context. moves-done _

pub moves-ibpkey : Moves ibpkey_at
unfolding ibpkey_at
moves-ibpkey = moves-then (moves-string _ 8) λ prefix. moves-then (moves-number _ 4) λ low. moves-then (moves-number _ 4) λ high. moves-then moves-context λ context. moves-done _

pub moves-ibendport : Moves ibendport_at
unfolding ibendport_at
moves-ibendport = moves-then (moves-name_length _) λ len. moves-then (moves-number _ 4) λ port. moves-then (moves-name_bytes _ len) λ name. moves-then moves-context λ context. moves-done _

moves-path : Moves path_at
unfolding path_at
moves-path = moves-then (moves-name _ _) λ path. moves-then (moves-number _ 4) λ class. moves-then moves-context λ context. moves-done _

pub moves-genfs : Moves genfs_at
unfolding genfs_at
moves-genfs = moves-then (moves-name _ _) λ fstype. moves-then (moves-counted_records _ path_at moves-path) λ paths. moves-done _
