-- What comes back: document 01, "What comes back".
-- A reply is its number in document 01's table and the values handed back with it.
use Rattle.std.specs.Prelude.{ℕ, zero, suc, ◌+◌, ◌*◌, Bool, true, false, ◌||◌, not, cond, List, [], ◌∷◌, leb, ltb, eqb, length}
use Rattle.repetition.specs.Numbers.{one_if, each_below}
use Rattle.repetition.specs.Repetition.{stands}
use Rattle.repetition.specs.Blocks.{Block, list_of}
use Rattle.repetition.specs.Comparisons.{comparisons}
use Rattle.repetition.specs.Limits.{length_limit, room_for}
use Rattle.repetition.specs.Memory.{room, written, cleared}

pub record Reply : Type 0 where
  pub number : ℕ
  pub values : List ℕ

-- a refusal that hands back nothing more
abbrev pub refused : ℕ → Reply
refused n = record { number = n; values = [] }

-- the first ground on which text and work space are refused: 1, then 2; 0 if there is none
unfoldable pub refusal : List ℕ → List ℕ → ℕ
refusal t work = cond (ltb length_limit (length t)) 1 (cond (ltb (length work) (2 * length t)) 2 0)

-- ---- the list

pub record Listed : Type 0 where
  pub reply : Reply
  pub work : List ℕ
  pub report : List ℕ

-- the list of a text that is not refused for its length or its work space: finished, or full
unfoldable pub listed : List ℕ → List ℕ → List ℕ → Listed
unfolding list_of comparisons room written cleared
listed t work report =
    let bs = list_of t in
    record {
      reply =
          record {
            number = cond (leb (length bs) (room report)) 0 3;
            values = length bs ∷ comparisons t ∷ [];
          };
      work = cleared (length t) work;
      report = written bs report;
    }

unfoldable pub listing : List ℕ → List ℕ → List ℕ → Listed
unfolding refusal listed
listing t work report =
    elim (refusal t work) [
      | zero ↦ listed t work report
      | suc r ↦ record { reply = refused (suc r); work = work; report = report }
    ]

-- ---- the place test: yes is 1 and no is 0

unfoldable pub place : List ℕ → ℕ → ℕ → Reply
unfolding stands
place t s p =
    elim (ltb length_limit (length t)) [
      | true ↦ refused 1
      | false ↦ elim (eqb p 0 || ltb (length t) (s + 2 * p)) [
        | true ↦ refused 4
        | false ↦ record { number = 0; values = one_if (stands t s p) ∷ [] }
      ]
    ]

-- ---- questions that take a text and work space

pub record Asked : Type 0 where
  pub reply : Reply
  pub work : List ℕ

-- the answer to a question about the text, unless text or work space are refused
unfoldable pub asked : (List ℕ → List ℕ) → List ℕ → List ℕ → Asked
unfolding refusal cleared
asked answer t work =
    elim (refusal t work) [
      | zero ↦ record { reply = record { number = 0; values = answer t }; work = cleared (length t) work }
      | suc r ↦ record { reply = refused (suc r); work = work }
    ]

-- no start and no half in the text make a repetition
unfoldable pub repetition_free : List ℕ → Bool
unfolding stands each_below
repetition_free t = each_below (length t) (λ s. each_below (length t) (λ p. not (stands t s p)))

-- is the text free of repetitions? yes is 1 and no is 0
unfoldable pub free_test : List ℕ → List ℕ → Asked
unfolding asked repetition_free
free_test = asked (λ t. one_if (repetition_free t) ∷ [])

-- the block of greatest half, and of those the one met first
unfoldable pub longest_of : Block → List Block → Block
longest_of b [] = b
longest_of b (c ∷ cs) = longest_of (cond (ltb b.half c.half) c b) cs

-- start and half of the longest repetition in a list; nothing if the list is empty
unfoldable pub longest_in : List Block → List ℕ
unfolding longest_of
longest_in [] = []
longest_in (b ∷ bs) = let c = longest_of b bs in c.first ∷ c.half ∷ []

unfoldable pub longest : List ℕ → List ℕ → Asked
unfolding asked list_of longest_in
longest = asked (λ t. longest_in (list_of t))

-- ---- the room question

unfoldable pub room_question : ℕ → Reply
unfolding room_for
room_question n =
    elim (ltb length_limit n) [ true ↦ refused 1 | false ↦ record { number = 0; values = room_for n ∷ [] } ]
