-- The first line with a name that a policy lacks, check by check.
use Rattle.std.proofs.Common.{◌≡◌, ℕ, zero, suc, ◌+◌, List, [], ◌∷◌, drop, slice_get, Bool, true, false, cond, map, Option, Some, None, option_map, refl, sym, ap, ◌∙◌, add-one}
use Rattle.std.specs.List.{find}
use Rattle.std.specs.Option.{option_or}
use Rattle.pol_symbols.specs.declared.Symbols.{Symbols}
use Rattle.check_list.specs.declared.Setting.{Setting as SettingCode}
use Rattle.check_list.specs.Checklists.{Check, Setting}
use Rattle.check_list.specs.Inner.LineViews.{setting_of}
use Rattle.se_checker.specs.KnownNames.{first_unknown, unknown_in}

-- ---- the settings of a check

line_of : (test : Setting → Bool) (settings : List SettingCode) → option_map (λ (s : SettingCode). s.line) (find (λ s. test (setting_of s)) settings) ≡ option_map (λ (s : Setting). s.line) (find test (map setting_of settings))
line_of test [] = refl
line_of test (s ∷ ss) = by (test (setting_of s)) (line_of test ss)
  where
    by : (passes : Bool) → option_map (λ (s : SettingCode). s.line) (find (λ s. test (setting_of s)) ss) ≡ option_map (λ (s : Setting). s.line) (find test (map setting_of ss)) → option_map (λ (s : SettingCode). s.line) (cond passes (Some s) (find (λ s. test (setting_of s)) ss)) ≡ option_map (λ (s : Setting). s.line) (cond passes (Some (setting_of s)) (find test (map setting_of ss)))
    by true rest = refl
    by false rest = rest

pub found_line : (test : Setting → Bool) (settings : List SettingCode) (all : List Setting) (found : Option SettingCode) → map setting_of settings ≡ all → found ≡ find (λ s. test (setting_of s)) settings → option_map (λ (s : SettingCode). s.line) found ≡ option_map (λ (s : Setting). s.line) (find test all)
found_line test settings all found are is = ap (option_map (λ (s : SettingCode). s.line)) is ∙ line_of test settings ∙ ap (λ (xs : List Setting). option_map (λ (s : Setting). s.line) (find test xs)) are

-- ---- the checks of a list

drop_at : (checks : List Check) (i : ℕ) (check : Check) → slice_get checks i ≡ Some check → drop i checks ≡ check ∷ drop (suc i) checks
drop_at [] zero check at = absurd (cc)
drop_at [] (suc i) check at = absurd (cc)
drop_at (c ∷ cs) zero check at =
    let same : c ≡ check = cc in
    ap (λ (x : Check). x ∷ cs) same
drop_at (c ∷ cs) (suc i) check at = drop_at cs i check at

-- the checks from a place on
from_place : (symbols : Symbols) (checks : List Check) (i : ℕ) (check : Check) → slice_get checks i ≡ Some check → first_unknown symbols (drop i checks) ≡ option_or (unknown_in symbols check) (first_unknown symbols (drop (i + 1) checks))
from_place symbols checks i check at =
    ap (first_unknown symbols) (drop_at checks i check at) ∙ ap (λ (n : ℕ). option_or (unknown_in symbols check) (first_unknown symbols (drop n checks))) (sym (add-one i))

pub here : (symbols : Symbols) (checks : List Check) (i line : ℕ) (check : Check) → slice_get checks i ≡ Some check → Some line ≡ unknown_in symbols check → first_unknown symbols (drop i checks) ≡ first_unknown symbols checks → Some line ≡ first_unknown symbols checks
here symbols checks i line check at is stands =
    ap (λ (found : Option ℕ). option_or found (first_unknown symbols (drop (i + 1) checks))) is ∙ sym (from_place symbols checks i check at) ∙ stands

pub later : (symbols : Symbols) (checks : List Check) (i : ℕ) (check : Check) → slice_get checks i ≡ Some check → None ≡ unknown_in symbols check → first_unknown symbols (drop i checks) ≡ first_unknown symbols checks → first_unknown symbols (drop (i + 1) checks) ≡ first_unknown symbols checks
later symbols checks i check at is stands =
    ap (λ (found : Option ℕ). option_or found (first_unknown symbols (drop (i + 1) checks))) is ∙ sym (from_place symbols checks i check at) ∙ stands
