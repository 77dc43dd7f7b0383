-- The names of the classes and permissions that let a process execute a file, or change its domain (the kernel's classmap.h).
use Rattle.std.specs.Prelude.{ℕ, List, codes}

unfoldable pub process : List ℕ
process = codes "process"

unfoldable pub file : List ℕ
file = codes "file"

unfoldable pub transition : List ℕ
transition = codes "transition"

unfoldable pub dyntransition : List ℕ
dyntransition = codes "dyntransition"

unfoldable pub setexec : List ℕ
setexec = codes "setexec"

unfoldable pub setcurrent : List ℕ
setcurrent = codes "setcurrent"

unfoldable pub execute : List ℕ
execute = codes "execute"

unfoldable pub entrypoint : List ℕ
entrypoint = codes "entrypoint"
