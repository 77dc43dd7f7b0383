pub mod GenfsRecord
