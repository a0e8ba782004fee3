-- The reports, as bytes.
use Rattle.std.specs.Prelude.{◌≡◌, ◌⊎◌, ℕ, List, [], ◌∷◌, ◌++◌, length, decimal, codes}
use Rattle.sedck_script.specs.Program.{Program}
use Rattle.sedck_flow.specs.Run.{NamesForReading, NamesForWriting}
use Rattle.sedck_flow.specs.Flow.{Flow, ListsEdges}
use Rattle.sedck_flow.specs.Words.{node_words, kind_text, edge_words}
use Rattle.sedck_flow.specs.declared.graph.Node.{Node}
use Rattle.sedck_flow.specs.declared.graph.Kind.{Kind}
use Rattle.sedck_search.specs.Found.{IsFound}
use Rattle.sedck_search.specs.declared.answer.Form.{Form}
use Rattle.sedck_search.specs.declared.answer.Form.TheVariants.{Idle, Growing}
use Rattle.sedck_search.specs.declared.answer.Walk.{Walk}
use Rattle.sedck_search.specs.declared.answer.Found.{Found}
use Rattle.sedck_search.specs.declared.answer.Found.TheVariants.{Ranks, Loop}
use Rattle.sedck_flow.specs.declared.graph.Edge.{Edge}
use Rattle.sedck_cert.specs.Certificate.{Certificate}
use Rattle.sedck_cert.specs.Text.{line, files_text, certificate_text}
use Rattle.sedck_cert.specs.Ranked.{IsSteady, ListsNames}
use Rattle.sedck_cert.specs.Bounds.{IsBoundOf}
use Rattle.sedck_cert.specs.declared.checking.Rejection.{Rejection}
use Rattle.sedck_cert.specs.declared.checking.Rejection.TheVariants.{WrongCount, StartUnranked, LeavesRanked, NotLowered, ReadsDiffer, WritesDiffer}
use Rattle.sedck_cert.specs.declared.limits.Bound.{Bound}
use Rattle.sedck_cert.specs.declared.checking.Verdict.{Verdict}
use Rattle.sedck_cert.specs.declared.checking.Verdict.TheVariants.{Accepted, Rejected}
use Rattle.sedck_engines.specs.declared.answer.Input.{Input}
use Rattle.sedck_engines.specs.declared.answer.Input.TheVariants.{Script, Certificate as TheCertificate}

-- ---- check

abbrev pub rejection_words : Rejection → List ℕ
rejection_words WrongCount = codes "rejected 1 wrong-count"
rejection_words StartUnranked = codes "rejected 2 start-unranked"
rejection_words (LeavesRanked e) = codes "rejected 3 leaves-ranked " ++ edge_words e
rejection_words (NotLowered e) = codes "rejected 4 not-lowered " ++ edge_words e
rejection_words ReadsDiffer = codes "rejected 5 reads-differ"
rejection_words WritesDiffer = codes "rejected 6 writes-differ"

abbrev pub bound_words : Bound → List ℕ
bound_words b = codes "bound " ++ decimal b.per_byte ++ codes " " ++ decimal b.per_line ++ codes " " ++ decimal b.fixed

-- the line of the bound where the certificate is steady, and nothing where it isn't
abbrev pub IsBoundLine : Program → Certificate → List ℕ → Type 0
IsBoundLine p c text = (IsSteady p c × ((b : Bound) × IsBoundOf c b × (text ≡ line (bound_words b)))) ⊎ ((¬ IsSteady p c) × (text ≡ []))

-- the report on a certificate, with the verdict
abbrev pub IsCheckReport : Program → Certificate → Verdict → List ℕ → Type 0
IsCheckReport p c Accepted report =
    (bound : List ℕ) × IsBoundLine p c bound × (report ≡ line (codes "accepted") ++ bound ++ files_text c.reads c.writes)
IsCheckReport p c (Rejected why) report = report ≡ line (rejection_words why)

-- ---- files and graph

-- the names of the script's commands, read and written, each once and increasing
pub record IsFilesReport (p : Program) (report : List ℕ) : Type 0 where
  pub reads : List (List ℕ)
  pub writes : List (List ℕ)
  pub lists_reads : ListsNames reads (NamesForReading p)
  pub lists_writes : ListsNames writes (NamesForWriting p)
  pub is_report : report ≡ files_text reads writes

abbrev pub edge_lines : List Edge → List ℕ
edge_lines [] = []
edge_lines (e ∷ edges) = line (edge_words e) ++ edge_lines edges

-- the number of commands, and each edge of the flow graph once and in order
pub record IsGraphReport (p : Program) (report : List ℕ) : Type 0 where
  pub edges : List Edge
  pub lists : ListsEdges edges (Flow p)
  pub is_report : report ≡ line (codes "commands " ++ decimal (length p.commands)) ++ edge_lines edges

-- ---- rank

abbrev pub form_words : Form → List ℕ
form_words Idle = codes "loop idle"
form_words Growing = codes "loop growing"

-- each edge of a walk by the node that it leaves and its kind, and then the last node
abbrev pub walk_lines : List Node → List Kind → List ℕ
walk_lines (n ∷ nodes) (kind ∷ kinds) = line (node_words n ++ codes " " ++ kind_text kind) ++ walk_lines nodes kinds
walk_lines (n ∷ nodes) [] = line (node_words n)
walk_lines [] kinds = []

abbrev pub loop_text : Walk → List ℕ
loop_text walk = line (form_words walk.form) ++ walk_lines walk.nodes.items walk.kinds.items

-- the text of the certificate, or the loop
abbrev pub found_text : Found → List ℕ
found_text (Ranks cert) = certificate_text cert
found_text (Loop walk) = loop_text walk

-- the report of an answer that the search may give
abbrev pub IsRankReport : Program → Found → List ℕ → Type 0
IsRankReport p found report = IsFound p found × (report ≡ found_text found)

-- ---- which input

abbrev pub input_text : Input → List ℕ
input_text Script = codes "script"
input_text TheCertificate = codes "certificate"
