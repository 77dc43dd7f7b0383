-- The components of a policy that are compared, in their order, and their words in counts of differences.
use Rattle.std.specs.Prelude.{ℕ, List, [], ◌∷◌, codes}
use Rattle.diff_components.specs.declared.component.Component.{Component}
use Rattle.diff_components.specs.declared.component.Component.TheVariants.{Property, Polcap, Common, Class, Default, Sensitivity, Category, Level, Attribute, «Type», Permissive, Typebounds, Role, User, Bool, Allow, Auditallow, Dontaudit, Allowxperm, Auditallowxperm, Dontauditxperm, TypeTransition, TypeChange, TypeMember, RoleAllow, RoleTransition, RangeTransition, Constrain, Mlsconstrain, Validatetrans, Mlsvalidatetrans, InitialSid, FsUse, Genfscon, Netifcon, Nodecon, Portcon, Ibpkeycon, Ibendportcon}

-- the components in their order
abbrev pub components : List Component
components =
    Property ∷ Polcap ∷ Common ∷ Class ∷ Default ∷ Sensitivity ∷ Category ∷ Level ∷ Attribute ∷ «Type» ∷ Permissive ∷ Typebounds ∷ Role ∷
    User ∷ Bool ∷ Allow ∷ Auditallow ∷ Dontaudit ∷ Allowxperm ∷ Auditallowxperm ∷ Dontauditxperm ∷ TypeTransition ∷ TypeChange ∷
    TypeMember ∷ RoleAllow ∷ RoleTransition ∷ RangeTransition ∷ Constrain ∷ Mlsconstrain ∷ Validatetrans ∷ Mlsvalidatetrans ∷
    InitialSid ∷ FsUse ∷ Genfscon ∷ Netifcon ∷ Nodecon ∷ Portcon ∷ Ibpkeycon ∷ Ibendportcon ∷ []

-- the word for a component
abbrev pub component_word : Component → List ℕ
component_word Property = codes "Properties"
component_word Polcap = codes "Policy capabilities"
component_word Common = codes "Commons"
component_word Class = codes "Classes"
component_word Default = codes "Defaults"
component_word Sensitivity = codes "Sensitivities"
component_word Category = codes "Categories"
component_word Level = codes "Levels"
component_word Attribute = codes "Type attributes"
component_word «Type» = codes "Types"
component_word Permissive = codes "Permissive types"
component_word Typebounds = codes "Typebounds"
component_word Role = codes "Roles"
component_word User = codes "Users"
component_word Bool = codes "Booleans"
component_word Allow = codes "Allow"
component_word Auditallow = codes "Auditallow"
component_word Dontaudit = codes "Dontaudit"
component_word Allowxperm = codes "Allowxperm"
component_word Auditallowxperm = codes "Auditallowxperm"
component_word Dontauditxperm = codes "Dontauditxperm"
component_word TypeTransition = codes "Type_transition"
component_word TypeChange = codes "Type_change"
component_word TypeMember = codes "Type_member"
component_word RoleAllow = codes "Role_allow"
component_word RoleTransition = codes "Role_transition"
component_word RangeTransition = codes "Range_transition"
component_word Constrain = codes "Constrain"
component_word Mlsconstrain = codes "Mlsconstrain"
component_word Validatetrans = codes "Validatetrans"
component_word Mlsvalidatetrans = codes "Mlsvalidatetrans"
component_word InitialSid = codes "Initial SIDs"
component_word FsUse = codes "Fs_use"
component_word Genfscon = codes "Genfscon"
component_word Netifcon = codes "Netifcon"
component_word Nodecon = codes "Nodecon"
component_word Portcon = codes "Portcon"
component_word Ibpkeycon = codes "Ibpkeycon"
component_word Ibendportcon = codes "Ibendportcon"
