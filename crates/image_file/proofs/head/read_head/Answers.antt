use Rattle.std.proofs.Common.{[], ◌∷◌, take, refl, sym, subst}
use Rattle.std.proofs.lemmas.Result.{err_from_is_err_and}
use Rattle.layout_params.specs.Parameters.{Settings}
use Rattle.image_file.specs.declared.counts.Counts.{Counts}
use Rattle.image_file.specs.Image.{Image, image_of}
use Rattle.image_file.specs.ImageGrammar.{MarkPart, VersionPart, SettingsPart, CountsPart, LimitsPart, AreWithin, Stand, parts}
use Rattle.image_file.proofs.Agreement.{counts_from, settings_of}
use Rattle.image_file.proofs.Files.{head_wrong}
use Rattle.image_file.proofs.Stops.{refused_at}
use Rattle.image_file.proofs.head.read_head.Goals as goal

-- an image of settings alone
abbrev blank : Settings → Image
blank s = image_of s [] [] [] [] [] []

abbrev no_settings : Settings
no_settings = settings_of [] []

abbrev no_counts : Counts
no_counts = counts_from []

pub returns-in_err-rest : goal.returns-in_err-rest
returns-in_err-rest c =
    let p = err_from_is_err_and c.from_residual.result c.from_residual.ensures.1 in
    rw (p.1, p.2) (refused_at _ 1 _ c.args.bytes.now c.in_err-rest.ensures (λ none.
    head_wrong 1 [] MarkPart no_counts (blank no_settings) c.args.bytes.now c.args.bytes.now refl refl tt refl (λ d j rest same b. none rest b)))

pub returns-in_err-rest-2 : goal.returns-in_err-rest-2
returns-in_err-rest-2 c =
    let p = err_from_is_err_and c.from_residual-in_err-rest-2.result c.from_residual-in_err-rest-2.ensures.1 in
    let stand : Stand (MarkPart ∷ []) no_counts (blank no_settings) c.args.bytes.now c.in_ok-rest.rest.now = (c.in_ok-rest.rest.now, c.in_ok-rest.ensures, refl) in
    rw (p.1, p.2) (refused_at _ 2 _ c.args.bytes.now c.in_err-rest-2.ensures (λ none.
    head_wrong 2 (MarkPart ∷ []) VersionPart no_counts (blank no_settings) c.args.bytes.now c.in_ok-rest.rest.now refl refl (refl, tt) stand (λ d j rest same b. none rest b)))

pub returns-in_err-settings : goal.returns-in_err-settings
returns-in_err-settings c =
    let p = err_from_is_err_and c.from_residual-in_err-settings.result c.from_residual-in_err-settings.ensures.1 in
    let stand : Stand (MarkPart ∷ VersionPart ∷ []) no_counts (blank no_settings) c.args.bytes.now c.in_ok-rest-2.rest.now = (c.in_ok-rest.rest.now, c.in_ok-rest.ensures, (c.in_ok-rest-2.rest.now, c.in_ok-rest-2.ensures, refl)) in
    rw (p.1, p.2) (refused_at _ 3 _ c.args.bytes.now c.in_err-settings.ensures (λ none.
    head_wrong 3 (MarkPart ∷ VersionPart ∷ []) SettingsPart no_counts (blank no_settings) c.args.bytes.now c.in_ok-rest-2.rest.now refl refl (refl, (refl, tt)) stand (λ d j rest same b. none j.settings rest b.0 b.1)))

pub returns-in_err-counts : goal.returns-in_err-counts
returns-in_err-counts c =
    let p = err_from_is_err_and c.from_residual-in_err-counts.result c.from_residual-in_err-counts.ensures.1 in
    let stand : Stand (take 3 parts) no_counts (blank c.in_ok-settings.settings) c.args.bytes.now c.in_ok-settings.rest.now = (c.in_ok-rest.rest.now, c.in_ok-rest.ensures, (c.in_ok-rest-2.rest.now, c.in_ok-rest-2.ensures, (c.in_ok-settings.rest.now, c.in_ok-settings.ensures, refl))) in
    rw (p.1, p.2) (refused_at _ 4 _ c.args.bytes.now c.in_err-counts.ensures (λ none.
    head_wrong 4 (take 3 parts) CountsPart no_counts (blank c.in_ok-settings.settings) c.args.bytes.now c.in_ok-settings.rest.now refl refl (refl, (refl, (refl, tt))) stand (λ d j rest same b. none d rest b.0)))

pub returns-then-not-are_within : goal.returns-then-not-are_within
returns-then-not-are_within c =
    let image = blank c.in_ok-settings.settings in
    let counts = c.in_ok-counts.counts in
    let stand : Stand (take 4 parts) counts image c.args.bytes.now c.in_ok-counts.rest.now = (c.in_ok-rest.rest.now, c.in_ok-rest.ensures, (c.in_ok-rest-2.rest.now, c.in_ok-rest-2.ensures, (c.in_ok-settings.rest.now, c.in_ok-settings.ensures, (c.in_ok-counts.rest.now, c.in_ok-counts.ensures, refl)))) in
    head_wrong 5 (take 4 parts) LimitsPart counts image c.args.bytes.now c.in_ok-counts.rest.now refl refl (refl, (refl, (refl, (refl, tt)))) stand (λ d j rest same b.
    let within = subst (λ (s : Settings). AreWithin s counts) (sym same.1.1.0) (subst (λ (x : Counts). AreWithin j.settings x) (sym same.1.1.1.0) b.1) in
    let good = c.are_within.ensures.1 within in
    let bad = c.if-not-are_within.true in
    cc)

pub returns : goal.returns
returns c = (c.in_ok-rest.rest.now, c.in_ok-rest.ensures, (c.in_ok-rest-2.rest.now, c.in_ok-rest-2.ensures, (c.in_ok-settings.rest.now, c.in_ok-settings.ensures, (c.in_ok-counts.rest.now, c.in_ok-counts.ensures, (c.in_ok-counts.rest.now, (refl, c.are_within.ensures.0 c.if-not-are_within.false), refl)))))
