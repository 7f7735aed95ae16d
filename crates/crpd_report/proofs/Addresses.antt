-- Numbers that pass a test, found in sequence.
use Rattle.std.proofs.Common.{◌≡◌, ℕ, zero, suc, ◌+◌, ◌-◌, ◌^◌, ◌<◌, ◌≤◌, Bool, true, false, List}
use Rattle.std.proofs.Common.{[], ◌∷◌, ◌++◌, Some, refl, ap, sym, ◌∙◌, arith, slice_get}
use Rattle.std.specs.Option.{option_map_or}
use Rattle.std.proofs.lemmas.List.{append-nil}
use Rattle.std.proofs.lemmas.Grind.{flat_map-append}
use Rattle.crpd_base.specs.declared.data.Task.{Task}
use Rattle.crpd_base.specs.declared.data.Image.{Image}
use Rattle.code_map.specs.NextPassing.{IsNextPassing}
use Rattle.code_map.specs.Words.{Code, word_at, owns}
use Rattle.crpd_report.specs.List.{those_below, own_addresses, line_of, word_lines, list_text}

-- one more number, which passes the test or does not
pub one_more : (p : ℕ → Bool) (n : ℕ) → p n ≡ true
    → those_below (suc n) p ≡ those_below n p ++ n ∷ []
unfolding those_below
one_more p n e = rw e refl

pub none_more : (p : ℕ → Bool) (n : ℕ) → p n ≡ false → those_below (suc n) p ≡ those_below n p
unfolding those_below
none_more p n e = rw e (append-nil (those_below n p))

-- between two numbers none passes the test
pub none_between : (p : ℕ → Bool) (m d : ℕ) → ((a : ℕ) → m ≤ a → a < m + d → p a ≡ false)
    → those_below (m + d) p ≡ those_below m p
none_between p m zero none = ap (λ n. those_below n p) (let e : m + 0 ≡ m = omega arith in e)
none_between p m (suc d) none =
    ap (λ n. those_below n p) (let e : m + suc d ≡ suc (m + d) = omega arith in e)
    ∙ none_more p (m + d) (none (m + d) (omega arith) (omega arith))
    ∙ none_between p m d (λ a low high. none a low (omega arith))

up_to : (p : ℕ → Bool) (m n : ℕ) → m ≤ n → ((a : ℕ) → m ≤ a → a < n → p a ≡ false)
    → those_below n p ≡ those_below m p
up_to p m n le none =
    let e : n ≡ m + (n - m) = omega arith in
    ap (λ k. those_below k p) e ∙ none_between p m (n - m) (λ a low high. none a low (omega arith))

-- the next number that passes the test
pub next_more : (p : ℕ → Bool) (m a : ℕ) → IsNextPassing p m a
    → those_below (a + 1) p ≡ those_below m p ++ a ∷ []
next_more p m a next =
    ap (λ n. those_below n p) (let e : a + 1 ≡ suc a = omega arith in e)
    ∙ one_more p a next.passes
    ∙ ap (λ xs. xs ++ a ∷ []) (up_to p m a next.reached next.least)

-- ---- the list

module _ (code : Code) (task : Task) (image : Image)
    (here : slice_get code.images task.0 ≡ Some image) where
  pub more_lines : (text : List ℕ) (m a : ℕ) (line : List ℕ)
      → text ≡ word_lines code (those_below m (owns image)) → IsNextPassing (owns image) m a
      → line ≡ line_of a (word_at code.images a)
      → text ++ line ≡ word_lines code (those_below (a + 1) (owns image))
  more_lines text m a line is next e =
      ap (λ t. t ++ line) is ∙ ap (λ l. word_lines code (those_below m (owns image)) ++ l)
      (e ∙ sym (append-nil (line_of a (word_at code.images a))))
      ∙ sym (flat_map-append (λ b. line_of b (word_at code.images b))
      (those_below m (owns image)) (a ∷ []))
      ∙ ap (word_lines code) (sym (next_more (owns image) m a next))

  pub all_lines : (text : List ℕ) (m top : ℕ) → m ≤ top
      → text ≡ word_lines code (those_below m (owns image))
      → ((a : ℕ) → m ≤ a → owns image a ≡ false)
      → text ≡ word_lines code (those_below top (owns image))
  all_lines text m top le is none =
      is ∙ ap (word_lines code) (sym (up_to (owns image) m top le (λ a low high. none a low)))

  pub whole_list : (text : List ℕ) → text ≡ word_lines code (those_below (2 ^ 32) (owns image))
      → text ≡ list_text code task
  unfolding list_text own_addresses
  whole_list text e = e ∙ sym (ap (λ o. word_lines code (option_map_or own_addresses o [])) here)

pub no_lines : (code : Code) (p : ℕ → Bool) → [] ≡ word_lines code (those_below 0 p)
unfolding those_below
no_lines code p = refl

abbrev pub blank : Image
blank = record { entry = 0; segments = []; symbols = [] }
