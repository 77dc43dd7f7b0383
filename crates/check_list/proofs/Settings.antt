-- Settings as the code holds them, by their keys.
use Rattle.std.proofs.Common.{◌≡◌, List, [], ◌∷◌, Bool, true, false, ◌||◌, cond, eqb, map, Option, Some, option_map, refl, ap, ◌∙◌}
use Rattle.std.specs.List.{find, list_any}
use Rattle.text_rows.specs.TextLines.{fields_in}
use Rattle.check_list.specs.declared.check.Setting.{Setting as SettingCode}
use Rattle.check_list.specs.declared.check_key.CheckKey.{CheckKey}
use Rattle.check_list.specs.CheckWords.{key_number}
use Rattle.check_list.specs.Checklists.{Setting, has_key}
use Rattle.check_list.specs.Inner.LineViews.{setting_of}

pub any_setting : (key : CheckKey) (settings : List SettingCode) → list_any (λ setting. eqb (key_number key) (key_number setting.key)) settings ≡ has_key key (map setting_of settings)
any_setting key [] = refl
any_setting key (s ∷ ss) = ap (λ (b : Bool). eqb (key_number key) (key_number s.key) || b) (any_setting key ss)

-- the values that a key is given
given_values : (key : CheckKey) (settings : List SettingCode) → option_map (λ (s : SettingCode). fields_in s.values.now) (find (λ setting. eqb (key_number key) (key_number setting.key)) settings) ≡ option_map (λ (s : Setting). s.values) (find (λ setting. eqb (key_number key) (key_number setting.key)) (map setting_of settings))
given_values key [] = refl
given_values key (s ∷ ss) = by (eqb (key_number key) (key_number s.key)) (given_values key ss)
  where
    by : (same : Bool) → option_map (λ (s : SettingCode). fields_in s.values.now) (find (λ setting. eqb (key_number key) (key_number setting.key)) ss) ≡ option_map (λ (s : Setting). s.values) (find (λ setting. eqb (key_number key) (key_number setting.key)) (map setting_of ss)) → option_map (λ (s : SettingCode). fields_in s.values.now) (cond same (Some s) (find (λ setting. eqb (key_number key) (key_number setting.key)) ss)) ≡ option_map (λ (s : Setting). s.values) (cond same (Some (setting_of s)) (find (λ setting. eqb (key_number key) (key_number setting.key)) (map setting_of ss)))
    by true rest = refl
    by false rest = rest

-- the values of the setting that was found
pub given_found : (key : CheckKey) (lent settings : List SettingCode) (found : Option SettingCode) → lent ≡ settings → found ≡ find (λ setting. eqb (key_number key) (key_number setting.key)) lent → option_map (λ (s : SettingCode). fields_in s.values.now) found ≡ option_map (λ (s : Setting). s.values) (find (λ setting. eqb (key_number key) (key_number setting.key)) (map setting_of settings))
given_found key lent settings found same is =
    ap (option_map (λ (s : SettingCode). fields_in s.values.now)) (is ∙ ap (find (λ (s : SettingCode). eqb (key_number key) (key_number s.key))) same) ∙ given_values key settings
