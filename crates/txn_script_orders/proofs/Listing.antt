-- What is listed behind a text.
use Rattle.std.proofs.Common.{◌≡◌, ℕ, ◌+◌, List, [], ◌∷◌, ◌++◌, ◌∙◌, add-one, ap, subst, sym}
use Rattle.txn_script_orders.specs.Exploring.{Lists, ListsAll}

-- so many parts, one behind another
pub behind : (t0 t1 t2 t3 t4 t5 t6 t7 heading clients script printed : List ℕ) → t1 ≡ t0 ++ 10 ∷ [] → t2 ≡ t1 ++ heading → t3 ≡ t2 ++ clients → t4 ≡ t3 ++ 10 ∷ [] → t5 ≡ t4 ++ script → t6 ≡ t5 ++ 10 ∷ [] → t7 ≡ t6 ++ printed
    → t7 ≡ ((((((t0 ++ 10 ∷ []) ++ heading) ++ clients) ++ 10 ∷ []) ++ script) ++ 10 ∷ []) ++ printed
behind t0 t1 t2 t3 t4 t5 t6 t7 heading clients script printed e1 e2 e3 e4 e5 e6 e7 = cc

-- behind the figures nothing is listed at first
pub none_listed : (of : ℕ) (empty figures text : List ℕ) → text ≡ empty ++ figures → empty ≡ [] → ListsAll of 0 figures text
unfolding ListsAll
none_listed of empty figures text printed none = printed ∙ ap (λ it. it ++ figures) none

-- as many are listed, in the same text
pub same_listed : (of n m : ℕ) (figures before text : List ℕ) → ListsAll of n figures before → m ≡ n → text ≡ before → ListsAll of m figures text
same_listed of n m figures before text all count is = subst (λ k. ListsAll of k figures text) (sym count) (subst (λ it. ListsAll of n figures it) (sym is) all)

-- one outcome more is listed
pub one_more : (of n among number m : ℕ) (figures before after text : List ℕ) → ListsAll of n figures before → Lists among number before after → among ≡ of → number ≡ n + 1 → m ≡ n + 1 → text ≡ after → ListsAll of m figures text
unfolding ListsAll
one_more of n among number m figures before after text all one is_of is_next count is =
    let next : Lists of (n + 1) before after = subst (λ k. Lists of k before after) is_next (subst (λ k. Lists k number before after) is_of one) in
    subst (λ it. ListsAll of m figures it) (sym is) (subst (λ k. ListsAll of k figures after) (sym (count ∙ add-one n)) (before, all, subst (λ k. Lists of k before after) (add-one n) next))
