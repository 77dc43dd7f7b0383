-- What seinfo is asked. Its options are those of the manual page seinfo(1) of SETools.
use Rattle.std.specs.Prelude.{List, [], ◌∷◌, ◌++◌, codes, map, flat_map, option_map, Bool, true, false, Option, Some, None}
use Rattle.se_words.specs.Options.{Row, Named, Group, switch, naming, named_view}
use Rattle.se_words.specs.Given.{first_positional, is_given, last_value}
use Rattle.info_lines.specs.declared.listing.Listing.{Listing}
use Rattle.info_lines.specs.declared.listing.Listing.TheVariants.{Classes, Commons, Constraints, Validatetrans, Defaults, Roles, Types, Attributes, Users, Booleans, Sensitivities, Categories, InitialSids, FsUses, Genfscons, Netifcons, Nodecons, Portcons, Ibpkeycons, Ibendportcons, Permissives, Capabilities, Typebounds}
use Rattle.se_options.specs.declared.info_request.Wanted.{Wanted as WantedCode}
use Rattle.se_options.specs.declared.info_request.InfoRequest.{InfoRequest}

-- the option that asks for a listing
abbrev pub option_of : Listing → Row
option_of Classes = naming (Some (codes "-c")) (codes "--class")
option_of Commons = naming None (codes "--common")
option_of Constraints = naming None (codes "--constrain")
option_of Validatetrans = naming None (codes "--validatetrans")
option_of Defaults = naming None (codes "--default")
option_of Roles = naming (Some (codes "-r")) (codes "--role")
option_of Types = naming (Some (codes "-t")) (codes "--type")
option_of Attributes = naming (Some (codes "-a")) (codes "--attribute")
option_of Users = naming (Some (codes "-u")) (codes "--user")
option_of Booleans = naming (Some (codes "-b")) (codes "--bool")
option_of Sensitivities = naming None (codes "--sensitivity")
option_of Categories = naming None (codes "--category")
option_of InitialSids = naming None (codes "--initialsid")
option_of FsUses = naming None (codes "--fs_use")
option_of Genfscons = naming None (codes "--genfscon")
option_of Netifcons = naming None (codes "--netifcon")
option_of Nodecons = switch None (codes "--nodecon")
option_of Portcons = switch None (codes "--portcon")
option_of Ibpkeycons = switch None (codes "--ibpkeycon")
option_of Ibendportcons = switch None (codes "--ibendportcon")
option_of Permissives = naming None (codes "--permissive")
option_of Capabilities = naming None (codes "--polcap")
option_of Typebounds = switch None (codes "--typebounds")

-- the listings in their order
abbrev pub all_listings : List Listing
all_listings =
    Classes ∷ Commons ∷ Constraints ∷ Validatetrans ∷ Defaults ∷ Roles ∷ Types ∷ Attributes ∷ Users ∷ Booleans ∷ Sensitivities ∷ Categories ∷
    InitialSids ∷ FsUses ∷ Genfscons ∷ Netifcons ∷ Nodecons ∷ Portcons ∷ Ibpkeycons ∷ Ibendportcons ∷ Permissives ∷ Capabilities ∷ Typebounds ∷ []

-- the options of seinfo: those that ask for listings, for all of them, for expanded lines and for lines alone
unfoldable pub info_options : List Row
info_options =
    map option_of all_listings ++ switch None (codes "--all") ∷ switch (Some (codes "-x")) (codes "--expand") ∷ switch None (codes "--flat") ∷ []

-- a listing that is wanted, and the name of the lines that alone are wanted, if there is one
pub record Wanted : Type 0 where
  pub listing : Listing
  pub name : Option Named

-- what seinfo is asked: of the policy of that name, these listings, or where there are none its summary, and whether with expanded
-- lines, and by the lines alone
pub record InfoAsks : Type 0 where
  pub policy : Named
  pub listings : List Wanted
  pub expand : Bool
  pub flat : Bool

-- a listing with the name that its option has; where the option is not given, the listing is wanted if all are
abbrev pub wanted_by : Bool → Listing → Option (Option Named) → List Wanted
wanted_by all listing (Some name) = record { listing = listing; name = name } ∷ []
wanted_by true listing None = record { listing = listing; name = None } ∷ []
wanted_by false listing None = []

-- a listing, if it is wanted
abbrev pub wanted_in : Bool → List Group → Listing → List Wanted
wanted_in all groups listing = wanted_by all listing (last_value (option_of listing).name groups)

-- all listings that are wanted
unfoldable pub wanted_of : Bool → List Group → List Wanted
wanted_of all groups = flat_map (wanted_in all groups) all_listings

-- what groups of words ask of seinfo, if they name a policy
abbrev pub info_in : List Group → Option InfoAsks
info_in groups = option_map (λ policy. record {
  policy = policy;
  listings = wanted_of (is_given (codes "--all") groups) groups;
  expand = is_given (codes "--expand") groups;
  flat = is_given (codes "--flat") groups;
}) (first_positional groups)

abbrev pub wanted_view : WantedCode → Wanted
wanted_view wanted = record { listing = wanted.listing; name = option_map named_view wanted.name }

-- what a request of the code says
abbrev pub info_view : InfoRequest → InfoAsks
info_view asks = record { policy = named_view asks.policy; listings = map wanted_view asks.listings.items; expand = asks.expand; flat = asks.flat }
