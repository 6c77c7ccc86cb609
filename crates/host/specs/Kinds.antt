-- The kinds of hosts, by name and by number.
use Rattle.std.specs.Prelude.{ℕ, cond, ◌==◌, List, Ok, Err, Result, codes}
use Rattle.host.specs.declared.kind.HostKind.{HostKind}
use Rattle.host.specs.declared.kind.HostKind.TheVariants.{Scan, Table}
use Rattle.host.specs.declared.kind.UnknownHost.{UnknownHost}

-- the number of each, as lines of digits name it
abbrev pub kind_number : HostKind → ℕ
kind_number Scan = 1
kind_number Table = 2

-- the host of a number
abbrev pub kind_of : ℕ → Result HostKind UnknownHost
kind_of n =
    cond (n == kind_number Scan) (Ok Scan)
    (cond (n == kind_number Table) (Ok Table)
    (Err (record {})))

-- its name
abbrev pub name_of : HostKind → List ℕ
name_of Scan = codes "scan"
name_of Table = codes "table"
