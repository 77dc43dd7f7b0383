-- Numbers that have names.
use Rattle.std.specs.Prelude.{ℕ, zero, suc, ◌==◌, Option, None, List, [], ◌∷◌, ◌++◌, codes, decimal, slice_get, unwrap_or, if◌then◌else◌}
use Rattle.pol_fields.specs.declared.codes.TheConstants.{SECURITY_FS_USE_XATTR, SECURITY_FS_USE_TRANS}

-- the names of the initial SIDs from 1 on (libsepol's selinux_sid_to_str)
abbrev pub sid_names : List (List ℕ)
sid_names =
    codes "kernel" ∷ codes "security" ∷ codes "unlabeled" ∷ codes "fs" ∷ codes "file" ∷ codes "file_labels" ∷ codes "init" ∷ codes "any_socket" ∷ codes "port" ∷
    codes "netif" ∷ codes "netmsg" ∷ codes "node" ∷ codes "igmp_packet" ∷ codes "icmp_socket" ∷ codes "tcp_socket" ∷ codes "sysctl_modprobe" ∷ codes "sysctl" ∷
    codes "sysctl_fs" ∷ codes "sysctl_kernel" ∷ codes "sysctl_net" ∷ codes "sysctl_net_unix" ∷ codes "sysctl_vm" ∷ codes "sysctl_dev" ∷ codes "kmod" ∷ codes "policy" ∷
    codes "scmp_packet" ∷ codes "devnull" ∷ []

-- the name of an initial SID, where it has one
abbrev pub known_sid : ℕ → Option (List ℕ)
known_sid zero = None
known_sid (suc n) = slice_get sid_names n

-- the name of an initial SID, and sid_N where it has none
unfoldable pub sid_name : ℕ → List ℕ
sid_name number = unwrap_or (known_sid number) (codes "sid_" ++ decimal number)

-- the name of a protocol by its number in the IP header, and proto_N where it has none
abbrev pub protocol_name : ℕ → List ℕ
protocol_name number =
    if number == 6 then codes "tcp" else if number == 17 then codes "udp" else if number == 33 then codes "dccp" else if number == 132 then codes "sctp"
    else codes "proto_" ++ decimal number

-- the word of how the files of a file system get their contexts, in a rule
abbrev pub behaviour_word : ℕ → List ℕ
behaviour_word behaviour =
    if behaviour == SECURITY_FS_USE_XATTR then codes "fs_use_xattr" else if behaviour == SECURITY_FS_USE_TRANS then codes "fs_use_trans" else codes "fs_use_task"
