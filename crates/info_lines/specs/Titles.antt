-- What stands over each listing: the headings of SETools' seinfo, but for `Default Rules` and `Policy Capabilities`, which are this
-- project's own.
use Rattle.std.specs.Prelude.{ℕ, List, codes}
use Rattle.info_lines.specs.declared.listing.Listing.{Listing}
use Rattle.info_lines.specs.declared.listing.Listing.TheVariants.{Classes, Commons, Constraints, Validatetrans, Defaults, Roles, Types, Attributes, Users, Booleans, Sensitivities, Categories, InitialSids, FsUses, Genfscons, Netifcons, Nodecons, Portcons, Ibpkeycons, Ibendportcons, Permissives, Capabilities, Typebounds}

abbrev pub title_of : Listing → List ℕ
title_of Classes = codes "Classes"
title_of Commons = codes "Commons"
title_of Constraints = codes "Constraints"
title_of Validatetrans = codes "Validatetrans"
title_of Defaults = codes "Default Rules"
title_of Roles = codes "Roles"
title_of Types = codes "Types"
title_of Attributes = codes "Type Attributes"
title_of Users = codes "Users"
title_of Booleans = codes "Booleans"
title_of Sensitivities = codes "Sensitivities"
title_of Categories = codes "Categories"
title_of InitialSids = codes "Initial SIDs"
title_of FsUses = codes "Fs_use"
title_of Genfscons = codes "Genfscon"
title_of Netifcons = codes "Netifcon"
title_of Nodecons = codes "Nodecon"
title_of Portcons = codes "Portcon"
title_of Ibpkeycons = codes "Ibpkeycon"
title_of Ibendportcons = codes "Ibendportcon"
title_of Permissives = codes "Permissive Types"
title_of Capabilities = codes "Policy Capabilities"
title_of Typebounds = codes "Typebounds"
