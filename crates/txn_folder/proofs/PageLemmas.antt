-- Pages of versions, and ids that ascend.
use Rattle.std.proofs.Common.{◌≡◌, ℕ, zero, suc, ◌<◌, ◌≤◌, ◌+◌, ◌==◌, true, false, not, List, [], ◌∷◌, ◌++◌, length, get_or, take, drop, map, Option, ap, sym, subst, ◌∙◌, arith, append_assoc, length-append, take-append-drop}
use Rattle.std.specs.Prelude.{All}
use Rattle.std.specs.List.Sorted.{IsStrictlyIncreasing}
use Rattle.std.proofs.lemmas.List.{get_or_append_left, length-take-le, map_push, map_more}
use Rattle.std.proofs.lemmas.List.Elements.{All-take}
use Rattle.std.proofs.Math.Seq.{take-append_seam}
use Rattle.txn_store.specs.Paths.{Segments}
use Rattle.txn_store.specs.VersionName.{Names, version_path}
use Rattle.txn_store.specs.declared.page.Page.{Page}
use Rattle.txn_store.specs.declared.store.ObjectMeta.{ObjectMeta}
use Rattle.txn_folder.specs.steps.Scans.{followed, AreSettled}
use Rattle.txn_folder.specs.Pages.{IsAbove, AscendAbove, location_of, locations, IsPageAfter}
use Rattle.txn_folder.proofs.steps.ScanLemmas.{run_front}

pub none_ascend : (after : Option ℕ) → AscendAbove after []
none_ascend after = record { ascend = λ k l. absurd (omega (arith, l)); above = λ k d l. absurd (omega (arith, l)) }

front_ascends : (xs ys : List ℕ) → IsStrictlyIncreasing (xs ++ ys) → IsStrictlyIncreasing xs
front_ascends xs ys up k l =
    let within : k < length xs = omega (arith, l) in
    let long : k + 1 < length (xs ++ ys) = omega (arith, l, length-append xs ys) in
    let here = get_or_append_left xs ys 0 k within in
    let next = get_or_append_left xs ys 0 (k + 1) l in
    omega (arith, up k long, here, next)

-- the front of a list
pub front : (after : Option ℕ) (xs ys : List ℕ) → AscendAbove after (xs ++ ys) → AscendAbove after xs
front after xs ys h = record {
  ascend = front_ascends xs ys h.ascend;
  above = subst (All (IsAbove after)) (take-append_seam xs ys) (All-take (IsAbove after) (length xs) (xs ++ ys) h.above);
}

-- what stood at the moment that three scans tell is the front of the second
ascend_by : (after : Option ℕ) (last : ℕ) (first second rest run : List ℕ) → second ≡ first ++ rest → run ≡ followed last rest → AscendAbove after second → AscendAbove after (first ++ run)
ascend_by after last first second rest run second_is run_is h =
    let begun : take (length run) rest ≡ run = rw run_is (run_front last rest) in
    let parts : rest ≡ run ++ drop (length run) rest = sym (take-append-drop (length run) rest) ∙ ap (λ r. r ++ drop (length run) rest) begun in
    let whole : second ≡ (first ++ run) ++ drop (length run) rest = second_is ∙ ap (λ r. first ++ r) parts ∙ sym (append_assoc first run (drop (length run) rest)) in
    front after (first ++ run) (drop (length run) rest) (subst (AscendAbove after) whole h)

pub settled_ascend : (after : Option ℕ) (last : ℕ) (first second third run : List ℕ) → AscendAbove after second → AreSettled last first second third run → AscendAbove after (first ++ run)
settled_ascend after last first second third run h s = ascend_by after last first second s.rest run s.second_is s.run_is h

-- one more version is told
pub metas_more : (names : Names) (ids : List ℕ) (i : ℕ) (metas : List ObjectMeta) (meta : ObjectMeta) → i < length ids → locations metas ≡ map (version_path names) (take i ids) → meta.location ≡ version_path names (get_or ids i 0) → locations (metas ++ meta ∷ []) ≡ map (version_path names) (take (i + 1) ids)
metas_more names ids i metas meta within so_far at =
    map_push location_of metas meta ∙ (λ t. so_far t ++ at t ∷ []) ∙ sym (map_more (version_path names) ids i 0 within)

some_left : (left count long : ℕ) → left + count ≡ long → not (left == 0) ≡ true → count < long
some_left zero count long all more = absurd (cc)
some_left (suc left) count long all more = omega (arith, all)

-- the page of the first so many ids
pub front_page : (names : Names) (after : Option ℕ) (limit count left : ℕ) (ids told : List ℕ) (page : Page) →
    told ≡ take count ids → locations page.metas ≡ map (version_path names) told → AscendAbove after ids → count ≤ length ids → count ≤ limit → (count < length ids → count ≡ limit) → left + count ≡ length ids → page.more ≡ not (left == 0) → IsPageAfter names after limit page
front_page names after limit count left ids told page front_is at h within small full all more_is =
    let long : length told ≡ count = ap length front_is ∙ length-take-le count ids within in
    record {
      ids = told;
      versions = at;
      ascend = subst (AscendAbove after) (sym front_is) (front after (take count ids) (drop count ids) (subst (AscendAbove after) (sym (take-append-drop count ids)) h));
      few = omega (arith, long, small);
      full = λ more. long ∙ full (some_left left count (length ids) all (sym more_is ∙ more));
    }

pub empty_page : (names : Names) (after : Option ℕ) (limit : ℕ) (page : Page) → page.metas ≡ [] → page.more ≡ false → IsPageAfter names after limit page
empty_page names after limit page none no_more = record {
  ids = [];
  versions = ap locations none;
  ascend = none_ascend after;
  few = omega arith;
  full = λ more. let clash : true ≡ false = sym more ∙ no_more in absurd (cc);
}

-- a version that is told after others is the newest of all
pub newest_told : (names : Names) (metas : List ObjectMeta) (meta : ObjectMeta) (id : ℕ) (told : List ObjectMeta) → told ≡ metas ++ meta ∷ [] → meta.location ≡ version_path names id → (older : List Segments) × (locations told ≡ older ++ version_path names id ∷ [])
newest_told names metas meta id told e at = (locations metas, ap locations e ∙ map_push location_of metas meta ∙ ap (λ location. locations metas ++ location ∷ []) at)
